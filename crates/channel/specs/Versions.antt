-- Both masks are ANDed; the highest set bit wins, bit 0 being version 1. Nothing set: no version, 21. Assumes nothing.
use Rattle.std.specs.Prelude.{Bool, cond, ◌&&◌, Option, Some, None, ℕ, zero, suc, eqb}
use Rattle.ground.specs.Digits.{bit}

-- the bit is set in both
abbrev pub both_have : ℕ → ℕ → ℕ → Bool
both_have i a b = eqb (bit i a) 1 && eqb (bit i b) 1

-- the highest version up to n that both have, 0 for none
unfoldable pub highest_up_to : ℕ → ℕ → ℕ → ℕ
highest_up_to zero a b = 0
highest_up_to (suc i) a b = cond (both_have i a b) (suc i) (highest_up_to i a b)

unfoldable pub highest : ℕ → ℕ → ℕ
highest a b = highest_up_to 8 a b

unfoldable pub shared : ℕ → ℕ → Option ℕ
shared a b = cond (eqb (highest a b) 0) None (Some (highest a b))
