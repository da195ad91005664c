-- Packing says the number that the octets say, and each bit keeps its position. Assumes nothing.
use mathlib.Core.Path.{◌≡◌, refl, ap, sym, ◌∙◌}
use mathlib.Core.Bool.{true}
use mathlib.Core.List.{List, ◌∷◌, ◌++◌}
use Prim.Native.Nat.{ℕ, zero, suc, ◌+◌, ◌*◌, ◌-◌, ◌/◌, ◌%◌, ◌^◌, ◌<◌}
use native.Mathlib.Nat.{zero-mod, zero-div, zero-add, suc-add, mul-zero, mul-suc, pow-zero, pow-suc, div-lt_iff_lt-mul, lt_of_lt_of_le}
use native.Mathlib.Omega.{arith}
use lib.Pow.{pow-add, pow_mono, pow_pos}
use lib.ListN.{length, replicate}
use Rattle.ground.specs.Digits.{val, digits, all_below}
use Rattle.packing.specs.FormsOfData.{bits_of, units_for, octets_in, packed, unpacked}
use Rattle.packing.proofs.Digits.{val_below, val_digits}
use Rattle.packing.proofs.Bits.{all_bits, bits_digits, length_grouped, grouped_below, regrouped}
use Rattle.packing.proofs.Counts.{units_low}

pub pow-pow : (k n : ℕ) → (2 ^ k) ^ n ≡ 2 ^ (k * n)
pow-pow k zero = pow-zero (2 ^ k) ∙ ap (λ (m : ℕ). 2 ^ m) (sym (mul-zero k))
pow-pow k (suc n) =
    pow-suc (2 ^ k) n ∙ ap (λ (m : ℕ). m * 2 ^ k) (pow-pow k n) ∙ sym (pow-add 2 (k * n) k)
    ∙ ap (λ (m : ℕ). 2 ^ m) (sym (mul-suc k n))

module _ (b : ℕ) where
  digits_zero : (n : ℕ) → digits b n 0 ≡ replicate n 0
  unfolding digits
  digits_zero zero = refl
  digits_zero (suc n) = rw (zero-mod b, zero-div b) (ap (λ (l : List ℕ). 0 ∷ l) (digits_zero n))

  -- digits past those of the number are zero
  digits_past : 0 < b → (n m v : ℕ) → v < b ^ n → digits b (n + m) v ≡ digits b n v ++ replicate m 0
  unfolding digits
  digits_past pos zero m v h =
      let z : v ≡ 0 = omega (arith, pow-zero b) in
      ap (λ (l : ℕ). digits b l v) (zero-add m) ∙ ap (digits b m) z ∙ digits_zero m
  digits_past pos (suc n) m v h =
      ap (λ (l : ℕ). digits b l v) (suc-add n m)
      ∙ ap (λ (l : List ℕ). v % b ∷ l) (digits_past pos n m (v / b) ((div-lt_iff_lt-mul pos).1 (rw pow-suc at h)))

pub length_packed : (k : ℕ) (s : List ℕ) → length (packed k s) ≡ units_for k (length s)
unfolding packed
length_packed k s = length_grouped k (units_for k (length s)) (bits_of 8 s)

pub packed_below : (k : ℕ) (s : List ℕ) → all_below (2 ^ k) (packed k s) ≡ true
unfolding packed
packed_below k s = grouped_below k (units_for k (length s)) (bits_of 8 s) (all_bits 8 s)

pub length_unpacked : (k : ℕ) (us : List ℕ) → length (unpacked k us) ≡ octets_in k (length us)
unfolding unpacked
length_unpacked k us = length_grouped 8 (octets_in k (length us)) (bits_of k us)

pub unpacked_below : (k : ℕ) (us : List ℕ) → all_below 256 (unpacked k us) ≡ true
unfolding unpacked
unpacked_below k us = grouped_below 8 (octets_in k (length us)) (bits_of k us) (all_bits k us)

-- the octets s say a number in base 256, and the units that they are packed into are its digits in base 2 ^ k
pub packed_digits : (k : ℕ) (s : List ℕ) → all_below 256 s ≡ true
    → packed k s ≡ digits (2 ^ k) (units_for k (length s)) (val 256 s)
unfolding packed
packed_digits k s e = regrouped 8 k (units_for k (length s)) s e

-- the units us say a number in base 2 ^ k, and the octets that they are unpacked into are its digits in base 256
pub unpacked_digits : (k : ℕ) (us : List ℕ) → all_below (2 ^ k) us ≡ true
    → unpacked k us ≡ digits 256 (octets_in k (length us)) (val (2 ^ k) us)
unfolding unpacked
unpacked_digits k us e = regrouped k 8 (octets_in k (length us)) us e

module _ (k : ℕ) (s : List ℕ) (pos : 0 < k) (octets : all_below 256 s ≡ true) where
  octets_say : val 256 s < 2 ^ (8 * length s)
  octets_say = rw (pow-pow 8 (length s)) at (val_below 256 (omega arith) s octets)

  pub val_packed : val (2 ^ k) (packed k s) ≡ val 256 s
  val_packed =
      ap (val (2 ^ k)) (packed_digits k s octets)
      ∙ val_digits (2 ^ k) (pow_pos k) (units_for k (length s)) (val 256 s)
      (rw (pow-pow k (units_for k (length s))) (lt_of_lt_of_le octets_say (pow_mono (units_low k (length s) pos))))

  -- the bits of the units are the bits of the octets, in their order, and then zeros
  pub bits_kept : bits_of k (packed k s) ≡ bits_of 8 s ++ replicate (k * units_for k (length s) - 8 * length s) 0
  bits_kept =
      let spare : ℕ = k * units_for k (length s) - 8 * length s in
      let n : k * units_for k (length s) ≡ 8 * length s + spare = omega (arith, units_low k (length s) pos) in
      bits_digits k (packed k s) (packed_below k s)
      ∙ ap (λ (m : ℕ). digits 2 (k * m) (val (2 ^ k) (packed k s))) (length_packed k s)
      ∙ ap (λ (m : ℕ). digits 2 m (val (2 ^ k) (packed k s))) n
      ∙ ap (digits 2 (8 * length s + spare)) val_packed
      ∙ digits_past 2 (omega arith) (8 * length s) spare (val 256 s) octets_say
      ∙ ap (λ (l : List ℕ). l ++ replicate spare 0) (sym (bits_digits 8 s octets))
