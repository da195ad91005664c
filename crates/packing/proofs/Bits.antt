-- Bits, and the numbers that they are grouped into, are the digits of one large number. Assumes nothing.
use mathlib.Core.Path.{◌≡◌, refl, ap, sym, ◌∙◌}
use mathlib.Core.Bool.{true}
use mathlib.Core.List.{List, [], ◌∷◌}
use Prim.Native.Nat.{ℕ, zero, suc, ◌+◌, ◌*◌, ◌/◌, ◌%◌, ◌^◌, ◌<◌}
use native.Mathlib.Nat.{mul-zero, mul-suc}
use native.Mathlib.Omega.{arith}
use lib.ListN.{length, take, drop, length-append}
use Rattle.ground.specs.Digits.{val, digits, all_below}
use Rattle.packing.specs.FormsOfData.{bits_of, grouped}
use Rattle.packing.proofs.Digits.{low_part, high_part, all_head, all_tail, all_cons, all_append, all_drop, val_cut, val_append, length_digits, val_take_below, digits_below, digits_val, val_digits}

two : 0 < 2
two = omega arith

pub length_bits : (k : ℕ) (xs : List ℕ) → length (bits_of k xs) ≡ k * length xs
unfolding bits_of
length_bits k [] = sym (mul-zero k)
length_bits k (x ∷ xs) =
    omega (arith, length-append (digits 2 k x) (bits_of k xs), length_digits 2 k x, length_bits k xs, mul-suc k (length xs))

pub all_bits : (k : ℕ) (xs : List ℕ) → all_below 2 (bits_of k xs) ≡ true
unfolding bits_of all_below
all_bits k [] = refl
all_bits k (x ∷ xs) = all_append 2 (digits 2 k x) (bits_of k xs) (digits_below 2 two k x) (all_bits k xs)

pub val_bits : (k : ℕ) (xs : List ℕ) → all_below (2 ^ k) xs ≡ true → val 2 (bits_of k xs) ≡ val (2 ^ k) xs
unfolding bits_of val
val_bits k [] e = refl
val_bits k (x ∷ xs) e =
    val_append 2 (digits 2 k x) (bits_of k xs)
    ∙ ap (λ (n : ℕ). val 2 (digits 2 k x) + 2 ^ n * val 2 (bits_of k xs)) (length_digits 2 k x)
    ∙ ap (λ (v : ℕ). v + 2 ^ k * val 2 (bits_of k xs)) (val_digits 2 two k x (all_head (2 ^ k) x xs e))
    ∙ ap (λ (v : ℕ). x + 2 ^ k * v) (val_bits k xs (all_tail (2 ^ k) x xs e))

pub bits_digits : (k : ℕ) (xs : List ℕ) → all_below (2 ^ k) xs ≡ true → bits_of k xs ≡ digits 2 (k * length xs) (val (2 ^ k) xs)
bits_digits k xs e =
    sym (digits_val 2 two (bits_of k xs) (all_bits k xs))
    ∙ ap (λ (n : ℕ). digits 2 n (val 2 (bits_of k xs))) (length_bits k xs)
    ∙ ap (λ (v : ℕ). digits 2 (k * length xs) v) (val_bits k xs e)

module _ (k : ℕ) where
  val_first : (bs : List ℕ) → all_below 2 bs ≡ true → val 2 (take k bs) ≡ val 2 bs % 2 ^ k
  val_first bs e =
      sym (ap (λ (v : ℕ). v % 2 ^ k) (val_cut 2 k bs) ∙ low_part (val 2 (take k bs)) (val 2 (drop k bs)) (val_take_below 2 two k bs e))

  pub val_rest : (bs : List ℕ) → all_below 2 bs ≡ true → val 2 (drop k bs) ≡ val 2 bs / 2 ^ k
  val_rest bs e =
      sym (ap (λ (v : ℕ). v / 2 ^ k) (val_cut 2 k bs) ∙ high_part (val 2 (take k bs)) (val 2 (drop k bs)) (val_take_below 2 two k bs e))

  pub length_grouped : (n : ℕ) (bs : List ℕ) → length (grouped k n bs) ≡ n
  unfolding grouped
  length_grouped zero bs = refl
  length_grouped (suc n) bs = ap suc (length_grouped n (drop k bs))

  pub grouped_below : (n : ℕ) (bs : List ℕ) → all_below 2 bs ≡ true → all_below (2 ^ k) (grouped k n bs) ≡ true
  unfolding grouped all_below
  grouped_below zero bs e = refl
  grouped_below (suc n) bs e =
      all_cons (2 ^ k) (val 2 (take k bs)) (grouped k n (drop k bs)) (val_take_below 2 two k bs e)
      (grouped_below n (drop k bs) (all_drop 2 k bs e))

  grouped_digits : (n : ℕ) (bs : List ℕ) → all_below 2 bs ≡ true → grouped k n bs ≡ digits (2 ^ k) n (val 2 bs)
  unfolding grouped digits
  grouped_digits zero bs e = refl
  grouped_digits (suc n) bs e =
      ap (λ (v : ℕ). v ∷ grouped k n (drop k bs)) (val_first bs e)
      ∙ ap (λ (l : List ℕ). val 2 bs % 2 ^ k ∷ l) (grouped_digits n (drop k bs) (all_drop 2 k bs e))
      ∙ ap (λ (v : ℕ). val 2 bs % 2 ^ k ∷ digits (2 ^ k) n v) (val_rest bs e)

-- the bits of numbers of a bits each, grouped by b: the digits in base 2 ^ b of the number that those say in base 2 ^ a
pub regrouped : (a b n : ℕ) (xs : List ℕ) → all_below (2 ^ a) xs ≡ true
    → grouped b n (bits_of a xs) ≡ digits (2 ^ b) n (val (2 ^ a) xs)
regrouped a b n xs e =
    grouped_digits b n (bits_of a xs) (all_bits a xs) ∙ ap (λ (v : ℕ). digits (2 ^ b) n v) (val_bits a xs e)
