-- Digits and the number that they say undo each other; a list of digits cut in two, and joined. Assumes nothing.
use mathlib.Core.Path.{◌≡◌, refl, ap, sym, ◌∙◌}
use mathlib.Core.Bool.{Bool, true, ◌&&◌}
use mathlib.Core.List.{List, [], ◌∷◌, ◌++◌}
use Prim.Native.Nat.{ℕ, zero, suc, ◌+◌, ◌*◌, ◌/◌, ◌%◌, ◌^◌, ◌<◌}
use native.Mathlib.Nat.{zero-add, one-mul, mul-add, mul_assoc, mul_comm, mul-zero, pow-zero, pow-suc, pow-succ', add-mul-mod_self_left, add-mul-div_left, mod-eq_of_lt, div-eq_of_lt, mod-add-div, mod-lt, div-lt_iff_lt-mul, one-le-pow}
use native.Mathlib.Omega.{arith}
use lib.Arith.{digits_lt}
use lib.Dec.{ltb}
use Rattle.std.specs.List.{list_all}
use lib.ListN.{length, take, drop, get_or}
use lib.Seq.{take-length, take-append_seam, drop-append_seam}
use borrow.Author.Tests.{ltb-true, lt-ltb}
use Rattle.ground.specs.Digits.{val, digits, all_below}
use Rattle.ground.proofs.Test.{both_left, both_right}

-- a number with a digit below it, taken apart
pub low_part : (r q : ℕ) {m : ℕ} → r < m → (r + m * q) % m ≡ r
low_part r q {m} h = add-mul-mod_self_left r m q ∙ mod-eq_of_lt h

pub high_part : (r q : ℕ) {m : ℕ} → r < m → (r + m * q) / m ≡ q
high_part r q {m} h = add-mul-div_left r q (omega arith) ∙ ap (λ (n : ℕ). n + q) (div-eq_of_lt h) ∙ zero-add q

module _ (b : ℕ) where
  -- numbers that are all below b
  pub all_head : (x : ℕ) (xs : List ℕ) → all_below b (x ∷ xs) ≡ true → x < b
  unfolding all_below
  all_head x xs e = ltb-true x b (both_left (ltb x b) (all_below b xs) e)

  pub all_tail : (x : ℕ) (xs : List ℕ) → all_below b (x ∷ xs) ≡ true → all_below b xs ≡ true
  unfolding all_below
  all_tail x xs e = both_right (ltb x b) (all_below b xs) e

  pub all_cons : (x : ℕ) (xs : List ℕ) → x < b → all_below b xs ≡ true → all_below b (x ∷ xs) ≡ true
  unfolding all_below
  all_cons x xs h e = simp (lt-ltb x b h, e)

  pub all_of : (xs : List ℕ) → ((i : ℕ) → get_or xs i 0 < b) → all_below b xs ≡ true
  unfolding all_below
  all_of [] f = refl
  all_of (x ∷ xs) f = all_cons x xs (f 0) (all_of xs (λ i. f (suc i)))

  -- as the list's own test has it
  pub all_listed : (xs : List ℕ) → all_below b xs ≡ list_all (λ x. ltb x b) xs
  unfolding all_below
  all_listed [] = refl
  all_listed (x ∷ xs) = ap (λ (t : Bool). ltb x b && t) (all_listed xs)

  pub all_at : (xs : List ℕ) → 0 < b → all_below b xs ≡ true → (i : ℕ) → get_or xs i 0 < b
  all_at [] p e i = p
  all_at (x ∷ xs) p e zero = all_head x xs e
  all_at (x ∷ xs) p e (suc i) = all_at xs p (all_tail x xs e) i

  pub all_append : (xs ys : List ℕ) → all_below b xs ≡ true → all_below b ys ≡ true → all_below b (xs ++ ys) ≡ true
  all_append [] ys e f = f
  all_append (x ∷ xs) ys e f = all_cons x (xs ++ ys) (all_head x xs e) (all_append xs ys (all_tail x xs e) f)

  pub all_drop : (n : ℕ) (xs : List ℕ) → all_below b xs ≡ true → all_below b (drop n xs) ≡ true
  all_drop zero xs e = e
  all_drop (suc n) [] e = e
  all_drop (suc n) (x ∷ xs) e = all_drop n xs (all_tail x xs e)

  -- the number that the first n digits and the others say
  pub val_cut : (n : ℕ) (xs : List ℕ) → val b xs ≡ val b (take n xs) + b ^ n * val b (drop n xs)
  unfolding val
  val_cut zero xs = sym (zero-add (b ^ 0 * val b xs) ∙ ap (λ (p : ℕ). p * val b xs) (pow-zero b) ∙ one-mul (val b xs))
  val_cut (suc n) [] = omega (arith, mul-zero (b ^ suc n))
  val_cut (suc n) (x ∷ xs) =
      let low : ℕ = val b (take n xs) in
      let high : ℕ = val b (drop n xs) in
      let cut : b * val b xs ≡ b * low + b * (b ^ n * high) = ap (λ (v : ℕ). b * v) (val_cut n xs) ∙ mul-add b low (b ^ n * high) in
      let far : b * (b ^ n * high) ≡ b ^ suc n * high = sym (mul_assoc b (b ^ n) high) ∙ ap (λ (p : ℕ). p * high) (sym (pow-succ' b n)) in
      omega arith

  pub val_append : (xs ys : List ℕ) → val b (xs ++ ys) ≡ val b xs + b ^ length xs * val b ys
  val_append xs ys =
      val_cut (length xs) (xs ++ ys)
      ∙ ap (λ (l : List ℕ). val b l + b ^ length xs * val b (drop (length xs) (xs ++ ys))) (take-append_seam xs ys)
      ∙ ap (λ (l : List ℕ). val b xs + b ^ length xs * val b l) (drop-append_seam xs ys)

  pub length_digits : (n v : ℕ) → length (digits b n v) ≡ n
  unfolding digits
  length_digits zero v = refl
  length_digits (suc n) v = ap suc (length_digits n (v / b))

  -- digits of a base that is not 0
  module _ (pos : 0 < b) where
    pub val_take_below : (n : ℕ) (xs : List ℕ) → all_below b xs ≡ true → val b (take n xs) < b ^ n
    unfolding val
    val_take_below zero xs e = omega (arith, pow-zero b)
    val_take_below (suc n) [] e = one-le-pow (suc n) b pos
    val_take_below (suc n) (x ∷ xs) e =
        rw (pow-suc b n)
        (omega (arith, mul_comm b (val b (take n xs)), digits_lt (val_take_below n xs (all_tail x xs e)) (all_head x xs e)))

    pub val_below : (xs : List ℕ) → all_below b xs ≡ true → val b xs < b ^ length xs
    val_below xs e = rw take-length at (val_take_below (length xs) xs e)

    pub digits_below : (n v : ℕ) → all_below b (digits b n v) ≡ true
    unfolding digits all_below
    digits_below zero v = refl
    digits_below (suc n) v = all_cons (v % b) (digits b n (v / b)) (mod-lt v pos) (digits_below n (v / b))

    pub digits_val : (xs : List ℕ) → all_below b xs ≡ true → digits b (length xs) (val b xs) ≡ xs
    unfolding digits val
    digits_val [] e = refl
    digits_val (x ∷ xs) e =
        let h : x < b = all_head x xs e in
        ap (λ (n : ℕ). n ∷ digits b (length xs) ((x + b * val b xs) / b)) (low_part x (val b xs) h)
        ∙ ap (λ (n : ℕ). x ∷ digits b (length xs) n) (high_part x (val b xs) h)
        ∙ ap (λ (l : List ℕ). x ∷ l) (digits_val xs (all_tail x xs e))

    pub val_digits : (n v : ℕ) → v < b ^ n → val b (digits b n v) ≡ v
    unfolding digits val
    val_digits zero v h = omega (arith, pow-zero b)
    val_digits (suc n) v h =
        let l : v / b < b ^ n = (div-lt_iff_lt-mul pos).1 (rw pow-suc at h) in
        ap (λ (m : ℕ). v % b + b * m) (val_digits n (v / b) l) ∙ mod-add-div v b
