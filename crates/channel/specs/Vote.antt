-- The value is the majority of the three copies bit by bit. Assumes nothing.
use Rattle.std.specs.Prelude.{cond, List, [], ◌∷◌, ℕ, zero, suc, ◌+◌, ◌/◌, ◌%◌, eqb, leb}
use Rattle.ground.specs.Digits.{val, bit}

-- of three bits, the one that at least two of them are
abbrev pub majority : ℕ → ℕ → ℕ → ℕ
majority x y z = cond (leb 2 (x + y + z)) 1 0

-- the majorities of the n lowest bits, least first
unfoldable pub majorities : ℕ → ℕ → ℕ → ℕ → List ℕ
majorities zero a b c = []
majorities (suc n) a b c = majority (a % 2) (b % 2) (c % 2) ∷ majorities n (a / 2) (b / 2) (c / 2)

unfoldable pub voted : ℕ → ℕ → ℕ → ℕ
voted a b c = val 2 (majorities 8 a b c)

-- 1 where a copy has bit i as it was sent, else 0
abbrev pub as_sent : ℕ → ℕ → ℕ → ℕ
as_sent i copy sent = cond (eqb (bit i copy) (bit i sent)) 1 0
