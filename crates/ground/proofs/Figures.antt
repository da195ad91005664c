-- Tests on lists at figures. Assumes nothing.
use mathlib.Core.Path.{◌≡◌, refl}
use mathlib.Core.Bool.{true, false}
use mathlib.Core.List.{[], ◌∷◌}
use Rattle.ground.specs.Lists.{is_among}

-- a number is among those listed
pub record AmongAsListed : Type 0 where
  pub first : is_among 1 (1 ∷ 3 ∷ []) ≡ true
  pub last : is_among 3 (1 ∷ 3 ∷ []) ≡ true
  pub between : is_among 2 (1 ∷ 3 ∷ []) ≡ false
  pub none : is_among 0 [] ≡ false

pub among_as_listed : AmongAsListed
among_as_listed = record { first = refl; last = refl; between = refl; none = refl }
