-- That each number is below a limit, by the word for lists. Assumes nothing.
use mathlib.Core.Path.{◌≡◌, refl}
use mathlib.Core.List.{List, [], ◌∷◌}
use Prim.Native.Nat.{ℕ}
use lib.Dec.{ltb}
use Rattle.std.specs.List.{list_all}
use Rattle.ground.specs.Digits.{all_below}

pub list_all-below : (limit : ℕ) (xs : List ℕ) → list_all (λ x. ltb x limit) xs ≡ all_below limit xs
unfolding all_below
list_all-below limit [] = refl
list_all-below limit (x ∷ xs) = rw (list_all-below limit xs)
