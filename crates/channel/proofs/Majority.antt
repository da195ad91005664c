-- The vote over whole bytes is the vote bit by bit: the byte whose every bit is the majority of the three copies' bits. Assumes nothing.
use mathlib.Core.Path.{◌≡◌, sym, ap₂, ◌∙◌}
use mathlib.Core.Logic.{◌↔◌}
use Prim.Native.Nat.{ℕ, zero, suc, ◌+◌, ◌*◌, ◌/◌, ◌%◌, ◌^◌, ◌<◌, suc-le-suc}
use native.Mathlib.Nat.{mod-add-div, pow-suc, not-suc-le-zero, le_of_suc-le-suc}
use native.Mathlib.Omega.{arith}
use lib.Bits.{bit_and, bit_or}
use lib.Dec.{eqb, leb}
use Rattle.ground.specs.Digits.{val, bit}
use Rattle.ground.proofs.Each.{up_to, each, each_eq}
use Rattle.ground.proofs.Test.{either_way}
use Rattle.channel.specs.Vote.{majority, majorities, voted}
use Rattle.channel.proofs.BitByBit.{bit_zero, bit_next, bit_and_lem, bit_or_lem, and_byte, or_byte}

from_bits : (n a b c r : ℕ) → r < 2 ^ n → ((i : ℕ) → i < n → bit i r ≡ majority (bit i a) (bit i b) (bit i c))
    → r ≡ val 2 (majorities n a b c)
unfolding majorities val
from_bits zero a b c r l h = omega arith
from_bits (suc n) a b c r l h =
    let e : 2 ^ suc n ≡ 2 ^ n * 2 = pow-suc 2 n in
    let first : r % 2 ≡ majority (a % 2) (b % 2) (c % 2) = rw (bit_zero a, bit_zero b, bit_zero c, bit_zero r) at (h 0 (omega arith)) in
    let rest : r / 2 ≡ val 2 (majorities n (a / 2) (b / 2) (c / 2))
    = from_bits n (a / 2) (b / 2) (c / 2) (r / 2) (omega arith)
    (λ i hi. rw (bit_next i a, bit_next i b, bit_next i c, bit_next i r) at (h (suc i) (suc-le-suc hi))) in
    sym (mod-add-div r 2) ∙ ap₂ (λ x y. x + 2 * y) first rest

pub vote_by_bits : (a b c r : ℕ) → r < 256 → ((i : ℕ) → i < 8 → bit i r ≡ majority (bit i a) (bit i b) (bit i c)) → r ≡ voted a b c
unfolding voted
vote_by_bits a b c r l h = from_bits 8 a b c r l h

-- Each bit of the vote is the majority of the copies' bits; so a byte is the vote just where each of its bits is.

majority_bit : (x y z : ℕ) → majority x y z < 2
majority_bit x y z = either_way (λ n. n < 2) (leb 2 (x + y + z)) (omega arith) (omega arith)

to_bits : (n i a b c : ℕ) → i < n → bit i (val 2 (majorities n a b c)) ≡ majority (bit i a) (bit i b) (bit i c)
unfolding majorities val
to_bits zero i a b c h = absurd (not-suc-le-zero h)
to_bits (suc n) zero a b c h =
    let m : majority (a % 2) (b % 2) (c % 2) < 2 = majority_bit (a % 2) (b % 2) (c % 2) in
    rw (bit_zero a, bit_zero b, bit_zero c, bit_zero (val 2 (majorities (suc n) a b c))) (omega (arith, m))
to_bits (suc n) (suc i) a b c h =
    let m : majority (a % 2) (b % 2) (c % 2) < 2 = majority_bit (a % 2) (b % 2) (c % 2) in
    let half : val 2 (majorities (suc n) a b c) / 2 ≡ val 2 (majorities n (a / 2) (b / 2) (c / 2)) = omega (arith, m) in
    rw (bit_next i a, bit_next i b, bit_next i c, bit_next i (val 2 (majorities (suc n) a b c)), half)
    (to_bits n i (a / 2) (b / 2) (c / 2) (le_of_suc-le-suc h))

pub vote_just : (a b c r : ℕ) → r < 256 → (r ≡ voted a b c) ↔ ((i : ℕ) → i < 8 → bit i r ≡ majority (bit i a) (bit i b) (bit i c))
unfolding voted
vote_just a b c r l = (λ e i h. rw e (to_bits 8 i a b c h), vote_by_bits a b c r l)

-- of bits, what at least two of three are is worked out by AND and OR; so it is of bytes
of_bits : (x y z : ℕ) → x < 2 → y < 2 → z < 2 → bit_or (bit_or (bit_and x y) (bit_and x z)) (bit_and y z) ≡ majority x y z
of_bits x y z p q r =
    each_eq (λ z. bit_or (bit_or (bit_and x y) (bit_and x z)) (bit_and y z)) (majority x y) 2
    (each (λ y. up_to (λ z. eqb (bit_or (bit_or (bit_and x y) (bit_and x z)) (bit_and y z)) (majority x y z)) 2) 2
    (each (λ x. up_to (λ y. up_to (λ z. eqb (bit_or (bit_or (bit_and x y) (bit_and x z)) (bit_and y z)) (majority x y z)) 2) 2) 2 tt x p) y q) z r

pub whole_bytes : (a b c : ℕ) → a < 256 → b < 256 → c < 256 → bit_or (bit_or (bit_and a b) (bit_and a c)) (bit_and b c) ≡ voted a b c
whole_bytes a b c p q r =
    vote_by_bits a b c _ (or_byte (or_byte (and_byte p q) (and_byte p r)) (and_byte q r))
    (λ i h. rw (bit_or_lem i (bit_or (bit_and a b) (bit_and a c)) (bit_and b c), bit_or_lem i (bit_and a b) (bit_and a c), bit_and_lem i a b, bit_and_lem i a c, bit_and_lem i b c)
    (of_bits (bit i a) (bit i b) (bit i c) (omega arith) (omega arith) (omega arith)))
