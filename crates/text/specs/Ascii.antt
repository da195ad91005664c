-- The characters of a quoted text, as bytes. Assumes nothing.
use Rattle.std.specs.Prelude.{List, [], ◌∷◌, ℕ}
use Prim.Native.Char.{code}
use Prim.Native.String.{String, [] as empty, ◌∷◌ as ◌followed-by◌}

abbrev pub ascii : String → List ℕ
ascii empty = []
ascii (c followed-by cs) = code c ∷ ascii cs
