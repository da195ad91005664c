-- A test that passes, taken apart and put together. Assumes nothing.
use mathlib.Core.Path.{◌≡◌, refl}
use mathlib.Core.Bool.{Bool, true, false, ◌&&◌, cond, beq}
use lib.Dec.{T}

pub and_left : (a b : Bool) → T (a && b) → T a
and_left true b t = tt
and_left false b t = t

pub and_right : (a b : Bool) → T (a && b) → T b
and_right true b t = t
and_right false b t = absurd t

pub both_left : (a b : Bool) → (a && b) ≡ true → a ≡ true
both_left true b e = refl
both_left false b e = e

pub both_right : (a b : Bool) → (a && b) ≡ true → b ≡ true
both_right true b e = e
both_right false b e = cc

pub flag_true : (a : Bool) → T a → a ≡ true
flag_true true t = refl
flag_true false t = absurd t

pub same_flag : (a b : Bool) → T (beq a b) → a ≡ b
same_flag true true t = refl
same_flag true false t = absurd t
same_flag false true t = absurd t
same_flag false false t = refl

-- what holds of either outcome, each from the test's equation, holds of the outcome
pub by_test : {A : Type 0} (P : A → Type 0) (b : Bool) {x y : A} → (b ≡ true → P x) → (b ≡ false → P y) → P (cond b x y)
by_test P true f g = f refl
by_test P false f g = g refl

-- what holds of both outcomes holds of the one that a test picks
pub either_way : {A : Type 0} (P : A → Type 0) (b : Bool) {x y : A} → P x → P y → P (cond b x y)
either_way P b p q = by_test P b (λ t. p) (λ t. q)
