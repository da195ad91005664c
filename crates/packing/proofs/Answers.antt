-- What a call answers that has written, and the forms that are packed. Assumes nothing.
use mathlib.Core.Path.{◌≡◌, refl, sym}
use mathlib.Core.Bool.{Bool, true, false, not, ◌||◌, true≢false}
use mathlib.Core.List.{List}
use Prim.Native.Nat.{ℕ, ◌≤◌}
use native.Mathlib.Omega.{arith}
use lib.Dec.{eqb}
use lib.ListN.{length}
use borrow.Author.Tests.{eqb-true}
use Rattle.packing.specs.FormsOfData.{bits_of, grouped, units_for, octets_in, packed, unpacked}
use Rattle.packing.specs.NumbersOfRefusal.{Reply, not_packed, out_of_range, not_whole, room_refusal, pack_refusal, unpack_refusal, Answer, Packs, Unpacks}

-- a form that is packed is 6, 7 or 8
range : (k : ℕ) → not_packed k ≡ false → (6 ≤ k) × (k ≤ 8)
range k e = by (eqb k 6) (eqb k 7) (eqb k 8) (eqb-true k 6) (eqb-true k 7) (eqb-true k 8) e
  where
    by : (six seven eight : Bool) → (six ≡ true → k ≡ 6) → (seven ≡ true → k ≡ 7) → (eight ≡ true → k ≡ 8)
        → not (six || seven || eight) ≡ false → (6 ≤ k) × (k ≤ 8)
    by true seven eight f g h e = let is = f refl in omega arith
    by false true eight f g h e = let is = g refl in omega arith
    by false false true f g h e = let is = h refl in omega arith
    by false false false f g h e = absurd (true≢false e)

pub form_low : (k : ℕ) → not_packed k ≡ false → 6 ≤ k
form_low k e = (range k e).0

pub form_high : (k : ℕ) → not_packed k ≡ false → k ≤ 8
form_high k e = (range k e).1

-- the numbers that were written, ys of a bits each as numbers of b bits, are those that the call promises
module _ (k : ℕ) (s out : List ℕ) (at : ℕ) where
  pub pack_answer : {a b n : ℕ} {ys : List ℕ} {r : Reply} {after : List ℕ} → not_packed k ≡ false → a ≡ 8 → b ≡ k → ys ≡ s
      → n ≡ units_for b (length s)
      → Answer (room_refusal n (length out) at) (grouped b n (bits_of a ys)) out at r after → Packs k s out at r after
  unfolding pack_refusal packed
  pack_answer t ea eb es en answer = let answered = rw (en, ea, eb, es) at answer in simp t answered

  pub unpack_answer : {w a n : ℕ} {ys : List ℕ} {r : Reply} {after : List ℕ} → not_packed k ≡ false → w ≡ k
      → out_of_range w s ≡ false → a ≡ w → ys ≡ s → false ≡ not_whole a ys → n ≡ octets_in w (length s)
      → Answer (room_refusal n (length out) at) (grouped 8 n (bits_of a ys)) out at r after → Unpacks k s out at r after
  unfolding unpack_refusal unpacked
  unpack_answer form ew inside ea es whole en answer =
      let answered = rw (en, ea, es, ew) at answer in
      let within = rw ew at inside in
      let counted = rw (ea, es, ew) at whole in
      simp (form, within, sym counted) answered
