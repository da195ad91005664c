-- Tests put together and taken apart. Assumes nothing.
use mathlib.Core.Path.{◌≡◌, refl}
use mathlib.Core.Bool.{Bool, true, false, not, ◌&&◌, ◌||◌}

pub both : {a b : Bool} → a ≡ true → b ≡ true → (a && b) ≡ true
both p q = simp (p, q)

-- what follows from either of two tests follows if one of them passes
pub either : {P : Type 0} (a b : Bool) → (a ≡ true → P) → (b ≡ true → P) → (a || b) ≡ true → P
either true b f g e = f refl
either false b f g e = g e

pub negated : {a : Bool} → a ≡ false → not a ≡ true
negated e = rw e

-- of two tests that do not both pass, the second fails if the first passes
pub second_fails : (a b : Bool) → (a && b) ≡ false → a ≡ true → b ≡ false
second_fails true b e t = e
second_fails false b e t = cc

pub or_left : {a : Bool} (b : Bool) → a ≡ true → (a || b) ≡ true
or_left b e = rw e

pub or_right : (a : Bool) {b : Bool} → b ≡ true → (a || b) ≡ true
or_right true e = refl
or_right false e = e

pub first_fails : (a b : Bool) → (a && b) ≡ false → b ≡ true → a ≡ false
first_fails true b e t = cc
first_fails false b e t = refl
