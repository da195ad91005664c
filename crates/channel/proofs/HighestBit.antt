-- The highest set bit of the AND of two masks is the highest that both have. Assumes nothing.
use mathlib.Core.Path.{◌≡◌, refl, sym}
use mathlib.Core.Bool.{Bool, true, cond, ◌&&◌, beq}
use Prim.Native.Nat.{ℕ, zero, suc, ◌+◌, ◌*◌, ◌^◌, ◌<◌, ◌≤◌}
use native.Mathlib.Nat.{le_trans}
use native.Mathlib.Omega.{arith}
use lib.Bits.{bit_and}
use lib.Dec.{T, eqb, leb, ltb, eqb→eq, leb→le}
use borrow.Author.Tests.{lt-ltb, le-leb}
use Rattle.ground.specs.Digits.{bit}
use Rattle.ground.proofs.Test.{same_flag}
use Rattle.ground.proofs.Each.{up_to, each}
use Rattle.channel.specs.Versions.{both_have, highest_up_to, highest}
use Rattle.channel.proofs.BitByBit.{bit_and_lem}

-- where m has its highest bit at place k, its highest version is k + 1
at_place : ℕ → ℕ → Bool
at_place k m = cond (leb (2 ^ k) m && ltb m (2 * 2 ^ k)) (eqb (highest m m) (k + 1)) true

highest_at : (k m : ℕ) → k < 8 → 2 ^ k ≤ m → m < 2 * 2 ^ k → highest m m ≡ k + 1
unfolding highest highest_up_to at_place
highest_at k m i low high =
    let below : T (leb (2 * 2 ^ k) 256) = each (λ k. leb (2 * 2 ^ k) 256) 8 tt k i in
    let h : m < 256 = le_trans high (leb→le (2 * 2 ^ k) 256 below) in
    let placed : T (at_place k m) = each (at_place k) 256 (each (λ k. up_to (at_place k) 256) 8 tt k i) m h in
    eqb→eq (highest m m) (k + 1) (rw (le-leb (2 ^ k) m low, lt-ltb m (2 * 2 ^ k) high) at placed)

-- the AND of two bits is 1 where both are
of_bits : (x y : ℕ) → x < 2 → y < 2 → (eqb (bit_and x y) 1 && eqb (bit_and x y) 1) ≡ (eqb x 1 && eqb y 1)
of_bits x y p q =
    same_flag (eqb (bit_and x y) 1 && eqb (bit_and x y) 1) (eqb x 1 && eqb y 1)
    (each (λ y. beq (eqb (bit_and x y) 1 && eqb (bit_and x y) 1) (eqb x 1 && eqb y 1)) 2
    (each (λ x. up_to (λ y. beq (eqb (bit_and x y) 1 && eqb (bit_and x y) 1) (eqb x 1 && eqb y 1)) 2) 2 tt x p) y q)

have_and : (i a b : ℕ) → both_have i (bit_and a b) (bit_and a b) ≡ both_have i a b
have_and i a b = rw (bit_and_lem i a b) (of_bits (bit i a) (bit i b) (omega arith) (omega arith))

up_to_and : (n a b : ℕ) → highest_up_to n (bit_and a b) (bit_and a b) ≡ highest_up_to n a b
unfolding highest_up_to
up_to_and zero a b = refl
up_to_and (suc i) a b = rw (have_and i a b, up_to_and i a b)

highest_and : (a b : ℕ) → highest a b ≡ highest (bit_and a b) (bit_and a b)
unfolding highest
highest_and a b = sym (up_to_and 8 a b)

-- no bit is set in both
pub none_has : (a b : ℕ) → bit_and a b ≡ 0 → highest a b ≡ 0
unfolding highest highest_up_to
none_has a b e = rw (highest_and a b, e) refl

-- the highest bit set in both stands at place k
pub top_has : (a b k : ℕ) → k < 8 → 2 ^ k ≤ bit_and a b → bit_and a b < 2 * 2 ^ k → highest a b ≡ k + 1
top_has a b k i low high = rw (highest_and a b) (highest_at k (bit_and a b) i low high)
