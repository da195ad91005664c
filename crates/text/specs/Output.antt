-- A buffer that texts are put into: how much of them it takes, and where. Assumes nothing.
use Rattle.std.specs.Prelude.{List, ◌++◌, ℕ, ◌-◌, min, length, take, drop}
use Rattle.text.specs.declared.Text.{Text}
use Rattle.text.specs.Text.{room}

-- a buffer with xs from its start on, as much of it as there is room for, all other places as they were
abbrev pub over : List ℕ → List ℕ → List ℕ
over xs out = take (length out) xs ++ drop (length xs) out

-- how many characters of t are put from the place at on: as many as t has, 64 at the most, and as there is room for; none beyond the end
unfoldable pub put_count : Text → ℕ → List ℕ → ℕ
put_count t at out = min (min t.length room) (length out - at)
