-- The kind of a received byte during the exchange. Assumes nothing.
use Rattle.std.specs.Prelude.{Bool, cond, ◌&&◌, [], ◌∷◌, ℕ, zero, suc, ◌+◌, ◌-◌, ◌*◌, ◌/◌, eqb, leb}
use Rattle.ground.specs.Digits.{val}
use Rattle.channel.specs.Bytes.{B, bit_of, sgvi, sgp, sgr, sgss, sgidle, sgdis}
use Rattle.channel.specs.declared.byte.Leads.{Leads}
use Rattle.channel.specs.declared.kind.Kind.{Kind}
use Rattle.channel.specs.declared.kind.Kind.TheVariants.{Sgvi, Sgp, Sgr, Dl, Dh, Sd, Other}

-- B8 is ignored on receipt: the byte is the code but for B8
abbrev pub like : ℕ → ℕ → Bool
like code b = eqb (b / 2) (code / 2)

-- the bits after the first four of a DL, 0 1 0, of a DH, 1 1 0, and after the first five of an Sd, 0 1
abbrev pub is_dl : ℕ → Bool
is_dl b = eqb (B 5 b) 0 && eqb (B 6 b) 1 && eqb (B 7 b) 0

abbrev pub is_dh : ℕ → Bool
is_dh b = eqb (B 5 b) 1 && eqb (B 6 b) 1 && eqb (B 7 b) 0

abbrev pub is_sd : ℕ → Bool
is_sd b = eqb (B 6 b) 0 && eqb (B 7 b) 1

-- the number that the table keeps for a byte
unfoldable pub kind_number : ℕ → ℕ
kind_number b =
    cond (is_dl b) 1
    (cond (is_dh b) 2
    (cond (is_sd b) 3
    (cond (like sgvi b) 4
    (cond (like (sgp 0) b) 5
    (cond (like (sgp 1) b) 6
    (cond (like (sgp 2) b) 7
    (cond (like (sgp 3) b) 8
    (cond (like (sgp 4) b) 9
    (cond (like sgr b) 10
    (cond (like sgss b) 11
    (cond (like sgidle b) 12
    (cond (like sgdis b) 13 0))))))))))))

-- the nibble in B1..B4, its top bit in B1
unfoldable pub nibble_in : ℕ → ℕ
nibble_in b = val 2 (B 4 b ∷ B 3 b ∷ B 2 b ∷ B 1 b ∷ [])

unfoldable pub leads_in : ℕ → Leads
leads_in b = record { s0 = eqb (B 4 b) 1; s1 = eqb (B 3 b) 1; s2 = eqb (B 2 b) 1; s3 = eqb (B 1 b) 1 }

-- the kind of a number, with what the byte carries
unfoldable pub kind_from : ℕ → ℕ → Kind
kind_from n b =
    cond (eqb n 1) (Dl (nibble_in b))
    (cond (eqb n 2) (Dh (nibble_in b))
    (cond (eqb n 3) (Sd (leads_in b) (eqb (B 5 b) 1))
    (cond (eqb n 4) Sgvi
    (cond (leb 5 n && leb n 9) (Sgp (n - 5))
    (cond (eqb n 10) Sgr Other)))))

unfoldable pub kind_of : ℕ → Kind
kind_of b = kind_from (kind_number b) b

-- how many of the 128 codes, counted without B8, the table gives the number k
unfoldable pub how_many : ℕ → ℕ → ℕ
how_many k zero = 0
how_many k (suc n) = bit_of (eqb (kind_number (n * 2)) k) + how_many k n
