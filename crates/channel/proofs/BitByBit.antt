-- A byte bit by bit: its bits by recursion, and the bits of an AND and of an OR. Assumes nothing.
use mathlib.Core.Path.{◌≡◌}
use Prim.Native.Nat.{ℕ, suc, ◌/◌, ◌%◌, ◌^◌, ◌<◌}
use native.Mathlib.Nat.{div-div-eq-div-mul, pow-suc, mul_comm, div-one}
use lib.Bits.{bit_and, bit_or, and_shr, and_mod, or_shr, or_mod, and_lt, or_lt}
use Rattle.ground.specs.Digits.{bit}

pub bit_zero : (a : ℕ) → bit 0 a ≡ a % 2
bit_zero a = rw (div-one a)

pub bit_next : (i a : ℕ) → bit (suc i) a ≡ bit i (a / 2)
bit_next i a = rw (pow-suc 2 i, mul_comm (2 ^ i) 2, div-div-eq-div-mul a 2 (2 ^ i))

pub bit_and_lem : (i a b : ℕ) → bit i (bit_and a b) ≡ bit_and (bit i a) (bit i b)
bit_and_lem i a b = rw (and_shr a b i) (and_mod (a / 2 ^ i) (b / 2 ^ i) 1)

pub bit_or_lem : (i a b : ℕ) → bit i (bit_or a b) ≡ bit_or (bit i a) (bit i b)
bit_or_lem i a b = rw (or_shr a b i) (or_mod (a / 2 ^ i) (b / 2 ^ i) 1)

pub and_byte : {a b : ℕ} → a < 256 → b < 256 → bit_and a b < 256
and_byte {a} {b} p q = and_lt 8 a b p q

pub or_byte : {a b : ℕ} → a < 256 → b < 256 → bit_or a b < 256
or_byte {a} {b} p q = or_lt 8 a b p q
