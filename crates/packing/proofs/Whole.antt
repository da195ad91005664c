-- What `not_whole` tests: the bits left over are the highest of the last unit. Assumes nothing.
use mathlib.Core.Path.{◌≡◌, refl, ap, sym, ◌∙◌}
use mathlib.Core.Bool.{Bool, true, false}
use mathlib.Core.List.{List, [], ◌∷◌, ◌++◌, append-nil, append_assoc}
use Prim.Native.Nat.{ℕ, zero, suc, ◌+◌, ◌*◌, ◌-◌, ◌/◌, ◌%◌, ◌^◌, ◌≤◌, ◌<◌}
use native.Mathlib.Nat.{mul-suc, le-div_iff_mul-le, div-lt_iff_lt-mul}
use native.Mathlib.Omega.{arith}
use lib.Dec.{ltb, leb}
use lib.Pow.{pow_pos}
use lib.ListN.{length, take, drop, get_or}
use lib.Seq.{take-suc, take-length, length-take-le, drop-append-add, drop-nil}
use borrow.Author.Tests.{lt-ltb, lt-leb, leb-true, leb-false, eq-eqb}
use Rattle.ground.specs.Digits.{val, digits, all_below}
use Rattle.packing.specs.FormsOfData.{bits_of, units_for, octets_in, left_over}
use Rattle.packing.specs.NumbersOfRefusal.{some_one, not_whole}
use Rattle.packing.proofs.Digits.{all_head, all_tail, all_at, all_drop, digits_below, val_digits}
use Rattle.packing.proofs.Bits.{length_bits, val_rest}
use Rattle.packing.proofs.Counts.{spare_split, spare_lt}

positive_twice : (v : ℕ) → ltb 0 v ≡ ltb 0 (0 + 2 * v)
positive_twice zero = refl
positive_twice (suc v) = lt-ltb 0 (suc v) (omega arith) ∙ sym (lt-ltb 0 (0 + 2 * suc v) (omega arith))

-- some bit is 1 where the number that the bits say is not 0
pub some_one_lem : (bs : List ℕ) → all_below 2 bs ≡ true → some_one bs ≡ ltb 0 (val 2 bs)
unfolding some_one val
some_one_lem [] e = refl
some_one_lem (zero ∷ bs) e = some_one_lem bs (all_tail 2 0 bs e) ∙ positive_twice (val 2 bs)
some_one_lem (suc zero ∷ bs) e = sym (lt-ltb 0 (1 + 2 * val 2 bs) (omega arith))
some_one_lem (suc (suc x) ∷ bs) e =
    let l : suc (suc x) < 2 = all_head 2 (suc (suc x)) bs e in
    absurd (omega arith)

bits_append : (k : ℕ) (xs ys : List ℕ) → bits_of k (xs ++ ys) ≡ bits_of k xs ++ bits_of k ys
unfolding bits_of
bits_append k [] ys = refl
bits_append k (x ∷ xs) ys =
    ap (λ (l : List ℕ). digits 2 k x ++ l) (bits_append k xs ys) ∙ sym (append_assoc (digits 2 k x) (bits_of k xs) (bits_of k ys))

-- the quotient is not 0 where the divisor is no larger
divides : (x d : ℕ) → 0 < d → ltb 0 (x / d) ≡ leb d x
divides x d pos = by (leb d x) refl
  where
    by : (t : Bool) → leb d x ≡ t → ltb 0 (x / d) ≡ leb d x
    by true e =
        let h : 1 * d ≤ x = omega (arith, leb-true d x e) in
        lt-ltb 0 (x / d) ((le-div_iff_mul-le pos).1 h) ∙ sym e
    by false e =
        let h : x < 1 * d = omega (arith, leb-false d x e) in
        lt-leb 1 (x / d) ((div-lt_iff_lt-mul pos).1 h) ∙ sym e

none_left : (k : ℕ) (us : List ℕ) → length us ≡ 0 → some_one (left_over k us) ≡ false
unfolding left_over bits_of some_one
none_left k [] z = ap some_one (drop-nil (8 * octets_in k 0))
none_left k (x ∷ us) z = absurd (omega (arith, z))

-- the bits left over are those of the last unit, but for the lowest
module _ (k : ℕ) (us : List ℕ) (p : ℕ) (pos : 0 < k) (count : length us ≡ units_for k (octets_in k (length us)))
    (last : length us ≡ suc p) where
  left_is : left_over k us ≡ drop (k - k * (length us % 8) % 8) (digits 2 k (get_or us p 0))
  unfolding left_over bits_of
  left_is =
      let t : ℕ = k - k * (length us % 8) % 8 in
      let x : ℕ = get_or us p 0 in
      let lt : length (take p us) ≡ p = length-take-le p us (omega arith) in
      let cut : us ≡ take p us ++ (x ∷ []) = sym (take-length us) ∙ ap (λ (m : ℕ). take m us) last ∙ take-suc us p 0 (omega arith) in
      let ku : k * length us ≡ k * p + k = ap (λ (m : ℕ). k * m) last ∙ mul-suc k p in
      let first : length (bits_of k (take p us)) ≡ k * p = length_bits k (take p us) ∙ ap (λ (m : ℕ). k * m) lt in
      let at : 8 * octets_in k (length us) ≡ length (bits_of k (take p us)) + t =
      omega (arith, spare_split k (length us), spare_lt k (length us) pos count) in
      ap (λ (m : ℕ). drop m (bits_of k us)) at
      ∙ ap (λ (l : List ℕ). drop (length (bits_of k (take p us)) + t) l) (ap (bits_of k) cut ∙ bits_append k (take p us) (x ∷ []))
      ∙ drop-append-add (bits_of k (take p us)) (bits_of k (x ∷ [])) t
      ∙ ap (drop t) (append-nil (digits 2 k x))

  left_over_lem : all_below (2 ^ k) us ≡ true
      → some_one (left_over k us) ≡ leb (2 ^ (k - k * (length us % 8) % 8)) (get_or us p 0)
  left_over_lem all =
      let t : ℕ = k - k * (length us % 8) % 8 in
      let x : ℕ = get_or us p 0 in
      let two : 0 < 2 = omega arith in
      let bits : all_below 2 (digits 2 k x) ≡ true = digits_below 2 two k x in
      ap some_one left_is
      ∙ some_one_lem (drop t (digits 2 k x)) (all_drop 2 t (digits 2 k x) bits)
      ∙ ap (ltb 0) (val_rest t (digits 2 k x) bits)
      ∙ ap (λ (v : ℕ). ltb 0 (v / 2 ^ t)) (val_digits 2 two k x (all_at (2 ^ k) us (pow_pos k) all p))
      ∙ divides x (2 ^ t) (pow_pos t)

module _ (k : ℕ) (us : List ℕ) (n due : ℕ) (en : n ≡ octets_in k (length us)) (ed : due ≡ units_for k n) where
  due_is : due ≡ units_for k (octets_in k (length us))
  due_is = ed ∙ ap (units_for k) en

  module _ (count : length us ≡ due) where
    pub counted : length us ≡ units_for k (octets_in k (length us))
    counted = count ∙ due_is

    right_count : some_one (left_over k us) ≡ not_whole k us
    right_count = simp (eq-eqb (length us) (units_for k (octets_in k (length us))) counted)

    pub no_units : length us ≡ 0 → false ≡ not_whole k us
    no_units z = sym (none_left k us z) ∙ right_count

    -- x is the last unit, and `lowest` its lowest bit left over
    pub last_unit : (x lowest : ℕ) → 0 < k → all_below (2 ^ k) us ≡ true → (length us ≡ 0 → ⊥) → x ≡ get_or us (length us - 1) 0
        → lowest ≡ 2 ^ (k - k * (length us % 8) % 8) → leb lowest x ≡ not_whole k us
    last_unit x lowest pos all some ex el =
        let last : length us ≡ suc (length us - 1) = omega (arith, some) in
        ap (λ (m : ℕ). leb m x) el
        ∙ ap (leb (2 ^ (k - k * (length us % 8) % 8))) ex
        ∙ sym (left_over_lem k us (length us - 1) pos counted last all)
        ∙ right_count
