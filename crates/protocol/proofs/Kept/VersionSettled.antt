-- The version that two identifiers settle is none, or one that either has; and on such a version an originator's entry is not left out.
-- Assumes nothing.
use mathlib.Core.Path.{◌≡◌, refl}
use mathlib.Core.Bool.{Bool, true, false, cond, ◌&&◌, and-false}
use mathlib.Core.Logic.{◌⊎◌, inl, inr}
use Prim.Native.Nat.{ℕ, zero, suc, ◌*◌, ◌-◌, ◌≤◌}
use native.Mathlib.Omega.{arith}
use lib.Dec.{eqb, leb}
use borrow.Author.Tests.{le-leb, eqb-true}
use Rattle.ground.specs.Digits.{bit}
use Rattle.ground.proofs.Test.{by_test, both_left, both_right}
use Rattle.book.specs.declared.Book.{Book}
use Rattle.channel.specs.Versions.{both_have, highest_up_to, highest}
use Rattle.protocol.specs.Exchange.{originates, entry_of, identifier, left_out}
use Rattle.protocol.specs.Ranges.{is_version}
use Rattle.protocol.proofs.Kept.Cases.{both}

module _ (b : Book) (theirs : ℕ) where
  Settled : ℕ → Type 0
  Settled v = (is_version b v ≡ true) ⊎ (v ≡ 0)

  of_bit : (i : ℕ) → suc i ≤ 8 → both_have i (identifier b) theirs ≡ true → is_version b (suc i) ≡ true
  unfolding is_version
  of_bit i h e =
      let q : suc i - 1 ≡ i = omega arith in
      both (both (le-leb 1 (suc i) (omega arith)) (le-leb (suc i) 8 h))
      (rw q (both_left (eqb (bit i (identifier b)) 1) (eqb (bit i theirs) 1) e))

  up_to : (n : ℕ) → n ≤ 8 → Settled (highest_up_to n (identifier b) theirs)
  unfolding highest_up_to Settled
  up_to zero h = inr refl
  up_to (suc i) h =
      by_test Settled (both_have i (identifier b) theirs) (λ t. inl (of_bit i h t)) (λ t. up_to i (omega arith))

  pub settled : (is_version b (highest (identifier b) theirs) ≡ true) ⊎ (highest (identifier b) theirs ≡ 0)
  unfolding highest Settled
  settled = up_to 8 (omega arith)

-- of an originator whose entry has form 8 the identifier has no bit of version 1
pub own_stands : (b : Book) (version : ℕ) → originates b ≡ true → is_version b version ≡ true → left_out version (entry_of b 0) ≡ false
unfolding is_version identifier
own_stands b version o v = by (eqb (entry_of b 0).form 8) (eqb version 1) refl (rw o at v)
  where
    by : (eight one : Bool) → eqb version 1 ≡ one
        → (leb 1 version && leb version 8 && eqb (bit (version - 1) (cond eight (2 * bit 1 b.mask) b.mask)) 1) ≡ true
        → (one && eight) ≡ false
    by false one e h = and-false one
    by true false e h = refl
    by true true e h =
        let first : version ≡ 1 = eqb-true version 1 e in
        let has : bit (version - 1) (2 * bit 1 b.mask) ≡ 1 = eqb-true _ 1 (both_right (leb 1 version && leb version 8) _ h) in
        absurd (omega (arith, rw first at has))
