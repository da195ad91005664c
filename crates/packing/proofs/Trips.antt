-- What was packed is unpacked, and what was unpacked is packed again, for every form k. Assumes nothing.
use mathlib.Core.Path.{◌≡◌, refl, ap, sym, ◌∙◌}
use mathlib.Core.Bool.{Bool, true, false, cond, not, ◌||◌, true≢false}
use mathlib.Core.List.{List, ◌++◌}
use Prim.Native.Nat.{ℕ, zero, suc, ◌*◌, ◌-◌, ◌/◌, ◌^◌, ◌<◌}
use native.Mathlib.Nat.{div-lt_iff_lt-mul}
use native.Mathlib.Omega.{arith}
use lib.Dec.{eqb, ltb}
use lib.Pow.{pow_pos}
use lib.ListN.{length, drop, replicate}
use lib.Seq.{drop_at}
use borrow.Author.Tests.{eq-eqb, eqb-true, ltb-false, not-false}
use Rattle.ground.specs.Digits.{val, digits, all_below}
use Rattle.packing.specs.FormsOfData.{bits_of, units_for, octets_in, packed, unpacked, left_over}
use Rattle.packing.specs.NumbersOfRefusal.{not_packed, out_of_range, some_one, not_whole, room_refusal, unpack_refusal}
use Rattle.packing.proofs.Digits.{all_drop, digits_val, val_digits}
use Rattle.packing.proofs.Bits.{length_bits, all_bits, val_bits, val_rest}
use Rattle.packing.proofs.Counts.{octets_units}
use Rattle.packing.proofs.Answers.{form_low, form_high}
use Rattle.packing.proofs.Whole.{some_one_lem}
use Rattle.packing.proofs.Positions.{pow-pow, length_packed, packed_below, length_unpacked, unpacked_below, packed_digits, unpacked_digits, val_packed, bits_kept}

zeros : (n : ℕ) → some_one (replicate n 0) ≡ false
unfolding some_one
zeros zero = refl
zeros (suc n) = zeros n

module _ (k : ℕ) (s : List ℕ) (form : not_packed k ≡ false) (octets : all_below 256 s ≡ true) where
  pos : 0 < k
  pos = omega (arith, form_low k form)

  octets_in_lem : octets_in k (length (packed k s)) ≡ length s
  octets_in_lem = ap (octets_in k) (length_packed k s) ∙ octets_units k (length s) pos (form_high k form)

  -- unpacking what was packed gives the octets back
  pub unpack_packed : unpacked k (packed k s) ≡ s
  unpack_packed =
      unpacked_digits k (packed k s) (packed_below k s)
      ∙ ap (λ (n : ℕ). digits 256 n (val (2 ^ k) (packed k s))) octets_in_lem
      ∙ ap (digits 256 (length s)) (val_packed k s pos octets)
      ∙ digits_val 256 (omega arith) s octets

  none_left : some_one (left_over k (packed k s)) ≡ false
  unfolding left_over
  none_left =
      let spare : ℕ = k * units_for k (length s) - 8 * length s in
      ap (λ (n : ℕ). some_one (drop (8 * n) (bits_of k (packed k s)))) octets_in_lem
      ∙ ap (λ (l : List ℕ). some_one (drop (8 * length s) l)) (bits_kept k s pos octets)
      ∙ ap some_one (drop_at (bits_of 8 s) (replicate spare 0) (8 * length s) (length_bits 8 s))
      ∙ zeros spare

  -- and asks for nothing but room
  pub unpack_takes : (len at : ℕ) → unpack_refusal k (packed k s) len at ≡ room_refusal (length s) len at
  unfolding unpack_refusal
  unpack_takes len at =
      simp (form, packed_below k s, octets_in_lem, eq-eqb (length (packed k s)) (units_for k (length s)) (length_packed k s), none_left)

-- a chain of refusals that yields 0 has passed each test
passed : (t : Bool) (refusal : ℕ) {rest : ℕ} → 0 < refusal → cond t refusal rest ≡ 0 → (t ≡ false) × (rest ≡ 0)
passed true refusal p e = absurd (omega (arith, e))
passed false refusal p e = (refl, e)

neither : (a b : Bool) → (a || b) ≡ false → (a ≡ false) × (b ≡ false)
neither false b e = (refl, e)
neither true b e = absurd (true≢false e)

module _ (k : ℕ) (us : List ℕ) (len at : ℕ) (accepted : unpack_refusal k us len at ≡ 0) where
  tests : (not_packed k ≡ false) × (out_of_range k us ≡ false) × (not_whole k us ≡ false)
  unfolding unpack_refusal
  tests =
      let form = passed (not_packed k) 15 (omega arith) accepted in
      let range = passed (out_of_range k us) 12 (omega arith) form.1 in
      let whole = passed (not_whole k us) 16 (omega arith) range.1 in
      (form.0, range.0, whole.0)

  whole : (not (eqb (length us) (units_for k (octets_in k (length us)))) ≡ false) × (some_one (left_over k us) ≡ false)
  whole = neither (not (eqb (length us) (units_for k (octets_in k (length us))))) (some_one (left_over k us)) tests.2

  below : all_below (2 ^ k) us ≡ true
  below = not-false (all_below (2 ^ k) us) tests.1

  count : length us ≡ units_for k (octets_in k (length us))
  count = eqb-true (length us) (units_for k (octets_in k (length us))) (not-false (eqb (length us) (units_for k (octets_in k (length us)))) whole.0)

  -- no bit left over is 1, so the octets can say what the units say
  octets_say : val (2 ^ k) us < 256 ^ octets_in k (length us)
  unfolding left_over
  octets_say =
      let n : ℕ = octets_in k (length us) in
      let bits : all_below 2 (bits_of k us) ≡ true = all_bits k us in
      let rest : val 2 (left_over k us) ≡ val (2 ^ k) us / 2 ^ (8 * n) =
      val_rest (8 * n) (bits_of k us) bits ∙ ap (λ (v : ℕ). v / 2 ^ (8 * n)) (val_bits k us below) in
      let none : ltb 0 (val 2 (left_over k us)) ≡ false =
      sym (some_one_lem (left_over k us) (all_drop 2 (8 * n) (bits_of k us) bits)) ∙ whole.1 in
      let small : val (2 ^ k) us / 2 ^ (8 * n) < 1 = omega (arith, ltb-false 0 (val 2 (left_over k us)) none) in
      let less : val (2 ^ k) us < 1 * 2 ^ (8 * n) = (div-lt_iff_lt-mul (pow_pos (8 * n))).0 small in
      omega (arith, pow-pow 8 n)

  back : units_for k (length (unpacked k us)) ≡ length us
  back = ap (units_for k) (length_unpacked k us) ∙ sym count

  -- packing what was unpacked without refusal gives the units back
  pub pack_unpacked : packed k (unpacked k us) ≡ us
  pack_unpacked =
      packed_digits k (unpacked k us) (unpacked_below k us)
      ∙ ap (λ (n : ℕ). digits (2 ^ k) n (val 256 (unpacked k us))) back
      ∙ ap (λ (l : List ℕ). digits (2 ^ k) (length us) (val 256 l)) (unpacked_digits k us below)
      ∙ ap (digits (2 ^ k) (length us)) (val_digits 256 (omega arith) (octets_in k (length us)) (val (2 ^ k) us) octets_say)
      ∙ digits_val (2 ^ k) (pow_pos k) us below

  -- the bits of the units are the bits of the octets, in their order, and then zeros
  pub bits_kept_back : bits_of k us ≡ bits_of 8 (unpacked k us) ++ replicate (k * length us - 8 * octets_in k (length us)) 0
  bits_kept_back =
      let p : 0 < k = omega (arith, form_low k tests.0) in
      ap (bits_of k) (sym pack_unpacked)
      ∙ bits_kept k (unpacked k us) p (unpacked_below k us)
      ∙ ap (λ (u : ℕ). bits_of 8 (unpacked k us) ++ replicate (k * u - 8 * length (unpacked k us)) 0) back
      ∙ ap (λ (n : ℕ). bits_of 8 (unpacked k us) ++ replicate (k * length us - 8 * n) 0) (length_unpacked k us)
