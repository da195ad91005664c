-- The slots of a script, three bytes each. Assumes nothing.
use mathlib.Core.Path.{◌≡◌, refl}
use mathlib.Core.Bool.{Bool, true, false, not, ◌||◌, true≢false}
use mathlib.Core.List.{List, [], ◌∷◌}
use Prim.Native.Nat.{ℕ, suc, ◌+◌, ◌/◌, ◌%◌, ◌≤◌}
use native.Mathlib.Omega.{arith}
use lib.Dec.{eqb}
use lib.ListN.{length, drop, get_or}
use lib.Seq.{drop-cons}
use Rattle.std.specs.List.{list_any}
use Rattle.std.specs.Simd.{first_chunks}
use Rattle.std.proofs.Math.Bool.{or_assoc}
use Rattle.script.specs.Input.{is_stray, slots_fault}

-- the three bytes of a slot
pub three : (s : List ℕ) (i : ℕ) → i + 3 ≤ length s → drop i s ≡ get_or s i 0 ∷ get_or s (i + 1) 0 ∷ get_or s (i + 2) 0 ∷ drop (i + 3) s
three s i h =
    let one : i + 1 ≡ suc i = omega arith in
    let two : i + 2 ≡ suc (suc i) = omega arith in
    let all : i + 3 ≡ suc (suc (suc i)) = omega arith in
    rw (one, two, all, drop-cons s i 0 (omega arith), drop-cons s (suc i) 0 (omega arith), drop-cons s (suc (suc i)) 0 (omega arith))

pub or_left : (a b : Bool) → (a || b) ≡ false → a ≡ false
or_left true b e = e
or_left false b e = refl

pub or_right : (a b : Bool) → (a || b) ≡ false → b ≡ false
or_right true b e = absurd (true≢false e)
or_right false b e = e

-- a slot is stray, or something is left over
pub fault_by_slots : (xs : List ℕ)
    → slots_fault xs ≡ (list_any (λ s. is_stray (get_or s 1 0)) (first_chunks 3 (length xs / 3) xs) || not (eqb (length xs % 3) 0))
unfolding slots_fault
fault_by_slots [] = refl
fault_by_slots (x ∷ []) = refl
fault_by_slots (x ∷ y ∷ []) = refl
fault_by_slots (x ∷ y ∷ z ∷ xs) =
    let count : suc (suc (suc (length xs))) / 3 ≡ suc (length xs / 3) = omega arith in
    let left : suc (suc (suc (length xs))) % 3 ≡ length xs % 3 = omega arith in
    rw (count, left, fault_by_slots xs) (simp or_assoc)
