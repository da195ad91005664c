-- What the turns of `regroup` keep: the numbers still to be written are the digits of the bits in hand and of the numbers not yet read, above them.
-- Assumes nothing.
use mathlib.Core.Path.{◌≡◌, refl, ap, sym, ◌∙◌, subst}
use mathlib.Core.Bool.{true}
use mathlib.Core.List.{List, ◌∷◌, ◌++◌, append-nil}
use Prim.Native.Nat.{ℕ, suc, ◌+◌, ◌*◌, ◌-◌, ◌/◌, ◌%◌, ◌^◌, ◌≤◌, ◌<◌}
use native.Mathlib.Nat.{mul_assoc, mul_comm, mul-add, mul-zero, add-mul-mod_self_left, add-mul-div_left, lt_of_lt_of_le}
use native.Mathlib.Numerals.{add-one}
use native.Mathlib.Omega.{arith}
use lib.Arith.{digits_lt}
use Rattle.std.proofs.lemmas.List.{nil_from_length}
use lib.Pow.{shl_exact, pow_pos, pow_mono, pow-add, shr_lt}
use lib.ListN.{length, take, set, length-set}
use lib.Seq.{take-suc-set, append_snoc, take_all}
use Rattle.ground.specs.Digits.{val, digits, all_below}
use Rattle.packing.specs.FormsOfData.{bits_of, grouped}
use Rattle.packing.proofs.Digits.{all_head, all_tail}
use Rattle.packing.proofs.Bits.{regrouped}

far : (b h r : ℕ) → b ≤ h → 2 ^ h * r ≡ 2 ^ b * (2 ^ (h - b) * r)
far b h r le =
    let e : h ≡ b + (h - b) = omega arith in
    ap (λ (n : ℕ). 2 ^ n * r) e ∙ ap (λ (n : ℕ). n * r) (pow-add 2 b (h - b)) ∙ mul_assoc (2 ^ b) (2 ^ (h - b)) r

emit_low : (acc r b h : ℕ) → b ≤ h → (acc + 2 ^ h * r) % 2 ^ b ≡ acc % 2 ^ b
emit_low acc r b h le =
    ap (λ (n : ℕ). (acc + n) % 2 ^ b) (far b h r le) ∙ add-mul-mod_self_left acc (2 ^ b) (2 ^ (h - b) * r)

emit_high : (acc r b h : ℕ) → b ≤ h → (acc + 2 ^ h * r) / 2 ^ b ≡ acc / 2 ^ b + 2 ^ (h - b) * r
emit_high acc r b h le =
    ap (λ (n : ℕ). (acc + n) / 2 ^ b) (far b h r le) ∙ add-mul-div_left acc (2 ^ (h - b) * r) (pow_pos b)

absorb : (acc x r a h : ℕ) → acc + 2 ^ h * (x + 2 ^ a * r) ≡ acc + x * 2 ^ h + 2 ^ (h + a) * r
absorb acc x r a h =
    let e1 : 2 ^ h * (x + 2 ^ a * r) ≡ 2 ^ h * x + 2 ^ h * (2 ^ a * r) = mul-add (2 ^ h) x (2 ^ a * r) in
    let e2 : 2 ^ h * (2 ^ a * r) ≡ 2 ^ (h + a) * r =
    sym (mul_assoc (2 ^ h) (2 ^ a) r) ∙ ap (λ (n : ℕ). n * r) (sym (pow-add 2 h a)) in
    let e3 : 2 ^ h * x ≡ x * 2 ^ h = mul_comm (2 ^ h) x in
    omega arith

-- what acc, the bits in hand, `have` of them, and the numbers not yet read, of a bits each, say together
abbrev pub held : ℕ → ℕ → ℕ → List ℕ → ℕ
held a acc have rest = acc + 2 ^ have * val (2 ^ a) rest

-- what reading keeps: v is said
pub record Hand (a acc have : ℕ) (rest : List ℕ) (v : ℕ) : Type 0 where
  pub few : have < 16
  pub small : acc < 2 ^ have
  pub below : all_below (2 ^ a) rest ≡ true
  pub says : held a acc have rest ≡ v

-- what writing keeps: dst₀ is the lent part at entry, j the place in it, and v is still to be written
pub record Written (a b : ℕ) (src dst₀ dst : List ℕ) (j v : ℕ) : Type 0 where
  pub same : length dst ≡ length dst₀
  pub done : digits (2 ^ b) (length dst₀) (val (2 ^ a) src) ≡ take j dst ++ digits (2 ^ b) (length dst₀ - j) v

module _ {a acc have v : ℕ} {rest : List ℕ} (h : Hand a acc have rest v) where
  -- a number is read, shifted as the code does it, which loses no bit
  pub read : {x y : ℕ} {tail : List ℕ} → rest ≡ y ∷ tail → x ≡ y → have < 8 → a ≤ 8
      → Hand a (acc + x * 2 ^ have % 18446744073709551616) (have + a) tail v
  unfolding val
  read {x} {y} {tail} e is lt a8 =
      let all : all_below (2 ^ a) (y ∷ tail) ≡ true = rw e at h.below in
      let l : y < 2 ^ a = all_head (2 ^ a) y tail all in
      let s : y * 2 ^ have % 18446744073709551616 ≡ y * 2 ^ have = shl_exact a have 64 l (omega arith) in
      rw (is, s)
      (record {
        few = omega arith;
        small = rw (pow-add 2 have a) (omega (arith, mul_comm (2 ^ have) (2 ^ a), digits_lt l h.small));
        below = all_tail (2 ^ a) y tail all;
        says = sym (absorb acc y (val (2 ^ a) tail) a have) ∙ ap (held a acc have) (sym e) ∙ h.says;
      })

  -- past the end the bits are zero
  pub pad : {b : ℕ} → length rest ≡ 0 → have < b → b ≤ 8 → Hand a acc b rest v
  unfolding val
  pad {b} e lt b8 =
      let z : (n : ℕ) → held a acc n rest ≡ acc = λ n. ap (held a acc n) (nil_from_length rest e) ∙ omega (arith, mul-zero (2 ^ n)) in
      record {
        few = omega arith;
        small = lt_of_lt_of_le h.small (pow_mono (omega arith));
        below = h.below;
        says = z b ∙ sym (z have) ∙ h.says;
      }

  pub fits : acc < 18446744073709551616
  fits =
      let p : 2 ^ have ≤ 2 ^ 16 = pow_mono {i = have} {j = 16} (omega (arith, h.few)) in
      omega (arith, h.small)

  -- a number is written
  module _ (b base : ℕ) (base_is : base ≡ 2 ^ b) (le : b ≤ have) where
    pub emit_hand : Hand a (acc / base) (have - b) rest (held a (acc / base) (have - b) rest)
    emit_hand =
        let k : have ≡ have - b + b = omega arith in
        record {
          few = omega (arith, h.few);
          small = rw base_is (shr_lt (have - b) b (subst (λ (m : ℕ). acc < 2 ^ m) k h.small));
          below = h.below;
          says = refl;
        }

    pub emit_written : {src dst₀ dst : List ℕ} {j : ℕ} → Written a b src dst₀ dst j v → j < length dst
        → Written a b src dst₀ (set dst j (acc % base)) (j + 1) (held a (acc / base) (have - b) rest)
    unfolding digits
    emit_written {src} {dst₀} {dst} {j} w lt =
        let r : ℕ = val (2 ^ a) rest in
        let n : ℕ = length dst₀ - (j + 1) in
        let s : length dst₀ - j ≡ suc n = omega (arith, w.same) in
        record {
          same = simp length-set w.same;
          done =
              w.done
              ∙ ap (λ (m : ℕ). take j dst ++ digits (2 ^ b) (length dst₀ - j) m) (sym h.says)
              ∙ ap (λ (m : ℕ). take j dst ++ digits (2 ^ b) m (acc + 2 ^ have * r)) s
              ∙ ap (λ (m : ℕ). take j dst ++ (m ∷ digits (2 ^ b) n ((acc + 2 ^ have * r) / 2 ^ b))) (emit_low acc r b have le)
              ∙ ap (λ (m : ℕ). take j dst ++ (acc % 2 ^ b ∷ digits (2 ^ b) n m)) (emit_high acc r b have le)
              ∙ sym (append_snoc (take j dst) (acc % 2 ^ b) (digits (2 ^ b) n (acc / 2 ^ b + 2 ^ (have - b) * r)))
              ∙ ap (λ (l : List ℕ). l ++ digits (2 ^ b) n (acc / 2 ^ b + 2 ^ (have - b) * r)) (sym (take-suc-set dst j (acc % 2 ^ b) lt))
              ∙ ap (λ (m : ℕ). take m (set dst j (acc % 2 ^ b)) ++ digits (2 ^ b) n (acc / 2 ^ b + 2 ^ (have - b) * r)) (sym (add-one j))
              ∙ ap (λ (m : ℕ). take (j + 1) (set dst j (acc % m)) ++ digits (2 ^ b) n (acc / m + 2 ^ (have - b) * r)) (sym base_is);
        }

pub finish : {a b j v : ℕ} {src dst₀ dst : List ℕ} → Written a b src dst₀ dst j v → all_below (2 ^ a) src ≡ true → length dst ≤ j
    → dst ≡ grouped b (length dst₀) (bits_of a src)
unfolding digits
finish {a} {b} {j} {v} {src} {dst₀} {dst} w all le =
    let z : length dst₀ - j ≡ 0 = omega (arith, w.same) in
    sym
    (regrouped a b (length dst₀) src all
    ∙ w.done
    ∙ ap (λ (m : ℕ). take j dst ++ digits (2 ^ b) m v) z
    ∙ append-nil (take j dst)
    ∙ take_all j dst le)
