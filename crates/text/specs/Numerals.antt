-- Numbers and profiles as they are written. Assumes nothing.
use Rattle.std.specs.Prelude.{cond, List, [], ◌∷◌, ◌++◌, ℕ, ◌+◌, ◌/◌, ◌%◌, ltb}
use Rattle.book.specs.declared.Entry.{Entry}

abbrev pub digit : ℕ → ℕ
digit d = 48 + d

-- the digit of one place of n; a leading one is left out
abbrev pub place_of : ℕ → ℕ → List ℕ
place_of n unit = cond (ltb n unit) [] (digit (n / unit % 10) ∷ [])

-- a number of five digits or fewer in decimal, "0" for 0
unfoldable pub decimal_of : ℕ → List ℕ
decimal_of n = place_of n 10000 ++ place_of n 1000 ++ place_of n 100 ++ place_of n 10 ++ (digit (n % 10) ∷ [])

-- 0 to 9, A to F
abbrev pub hex_digit : ℕ → ℕ
hex_digit d = cond (ltb d 10) (48 + d) (55 + d)

-- a byte as two upper-case hex digits
unfoldable pub hex_of : ℕ → List ℕ
hex_of b = hex_digit (b / 16) ∷ hex_digit (b % 16) ∷ []

-- the five parameters of a profile in upper-case hex
unfoldable pub parameters_of : Entry → List ℕ
parameters_of p = hex_of p.p0 ++ hex_of p.p1 ++ hex_of p.p2 ++ hex_of p.p3 ++ hex_of p.p4
