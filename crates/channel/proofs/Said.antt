-- A kind in numbers says this paper's number and values. Assumes nothing.
use mathlib.Core.Path.{◌≡◌, refl, ap, ap₂, ◌∙◌}
use mathlib.Core.Bool.{Bool, true, false, ◌&&◌}
use mathlib.Core.List.{List, [], ◌∷◌}
use Prim.Native.Nat.{ℕ, ◌<◌}
use lib.Dec.{T, eqb, eqb→eq}
use Rattle.ground.specs.Digits.{val}
use Rattle.ground.proofs.Test.{and_left, and_right}
use Rattle.ground.proofs.Each.{each}
use Rattle.channel.specs.Kinds.{kind_number, nibble_in, leads_in, kind_from, kind_of}
use Rattle.channel.specs.Answers.{says_kind, kind_in_numbers}
use Rattle.channel.specs.declared.kind.Kind.{Kind}

abbrev same : List ℕ → List ℕ → Bool
same [] [] = true
same [] (y ∷ ys) = false
same (x ∷ xs) [] = false
same (x ∷ xs) (y ∷ ys) = eqb x y && same xs ys

same_is : (xs ys : List ℕ) → T (same xs ys) → xs ≡ ys
same_is [] [] t = refl
same_is [] (y ∷ ys) t = absurd t
same_is (x ∷ xs) [] t = absurd t
same_is (x ∷ xs) (y ∷ ys) t =
    ap₂ ◌∷◌ (eqb→eq x y (and_left (eqb x y) (same xs ys) t)) (same_is xs ys (and_right (eqb x y) (same xs ys) t))

-- by one computed test over the 256 bytes
pub kind_said : (b : ℕ) → b < 256 → {r : Kind} → r ≡ kind_of b → says_kind r ≡ kind_in_numbers b
unfolding kind_of kind_from kind_number nibble_in leads_in kind_in_numbers val
kind_said b h e =
    ap says_kind e ∙ same_is (says_kind (kind_of b)) (kind_in_numbers b) (each (λ b. same (says_kind (kind_of b)) (kind_in_numbers b)) 256 tt b h)
