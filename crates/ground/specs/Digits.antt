-- A list of digits, least first, the number that it says in base b, and bits as digits in base 2.
-- Assumes nothing.
use Rattle.std.specs.Prelude.{Bool, true, ◌&&◌, List, [], ◌∷◌, ℕ, zero, suc, ◌+◌, ◌*◌, ◌/◌, ◌%◌, ◌^◌, ltb}

-- the number that the digits say, least digit first
unfoldable pub val : ℕ → List ℕ → ℕ
val b [] = 0
val b (x ∷ xs) = x + b * val b xs

-- the n lowest digits of v, least first
unfoldable pub digits : ℕ → ℕ → ℕ → List ℕ
digits b zero v = []
digits b (suc n) v = v % b ∷ digits b n (v / b)

-- each of the numbers is below b
unfoldable pub all_below : ℕ → List ℕ → Bool
all_below b [] = true
all_below b (x ∷ xs) = ltb x b && all_below b xs

-- d i of a number: bit 0 is the least
abbrev pub bit : ℕ → ℕ → ℕ
bit i v = v / 2 ^ i % 2
