-- Tests on lists. Assumes nothing.
use Rattle.std.specs.Prelude.{Bool, false, ◌||◌, List, [], ◌∷◌, ℕ, eqb}

-- u is one of the numbers
abbrev pub is_among : ℕ → List ℕ → Bool
is_among u [] = false
is_among u (x ∷ xs) = eqb u x || is_among u xs
