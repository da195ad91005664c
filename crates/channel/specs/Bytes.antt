-- Bytes on the channel. Assumes nothing.
use Rattle.std.specs.Prelude.{Bool, cond, List, [], ◌∷◌, reverse, ℕ, ◌-◌, eqb, get_or}
use Rattle.ground.specs.Digits.{val, bit}
use Rattle.channel.specs.declared.byte.ChannelByte.{ChannelByte}
use Rattle.channel.specs.declared.byte.Leads.{Leads}

-- B1 goes first and is written as the top bit: the byte with these bits, B1 to B8
unfoldable pub laid : List ℕ → ℕ
laid bits = val 2 (reverse bits)

-- Bk of a byte, k from 1 to 8
abbrev pub B : ℕ → ℕ → ℕ
B k b = bit (8 - k) b

abbrev pub bit_of : Bool → ℕ
bit_of on = cond on 1 0

abbrev pub byte : ℕ → ChannelByte
byte b = record { 0 = b }

-- each signalling code has its one fixed byte
abbrev pub sgvi : ℕ
sgvi = 0x57

abbrev pub sgp : ℕ → ℕ
sgp k = get_or (0x07 ∷ 0x17 ∷ 0x27 ∷ 0x37 ∷ 0x47 ∷ []) k 0x47

abbrev pub sgr : ℕ
sgr = 0x67

abbrev pub sgss : ℕ
sgss = 0x77

abbrev pub sgidle : ℕ
sgidle = 0x7F

abbrev pub sgdis : ℕ
sgdis = 0xFF

abbrev pub sdidle : ℕ
sdidle = 0x43

-- the code with a number of the table of kinds, 4 to 13; Sdidle for any other number
unfoldable pub signalling : ℕ → ℕ
signalling n =
    cond (eqb n 4) sgvi
    (cond (eqb n 5) (sgp 0)
    (cond (eqb n 6) (sgp 1)
    (cond (eqb n 7) (sgp 2)
    (cond (eqb n 8) (sgp 3)
    (cond (eqb n 9) (sgp 4)
    (cond (eqb n 10) sgr
    (cond (eqb n 11) sgss
    (cond (eqb n 12) sgidle
    (cond (eqb n 13) sgdis sdidle)))))))))

-- s3 s2 s1 s0 BK 0 1 1
unfoldable pub sd_byte : Leads → Bool → ℕ
sd_byte s bk = laid (bit_of s.s3 ∷ bit_of s.s2 ∷ bit_of s.s1 ∷ bit_of s.s0 ∷ bit_of bk ∷ 0 ∷ 1 ∷ 1 ∷ [])

-- DL carries bits 3..0 in B1..B4, then 0101
unfoldable pub dl_byte : ℕ → ℕ
dl_byte v = laid (bit 3 v ∷ bit 2 v ∷ bit 1 v ∷ bit 0 v ∷ 0 ∷ 1 ∷ 0 ∷ 1 ∷ [])

-- DH carries bits 7..4, then 1101
unfoldable pub dh_byte : ℕ → ℕ
dh_byte v = laid (bit 7 v ∷ bit 6 v ∷ bit 5 v ∷ bit 4 v ∷ 1 ∷ 1 ∷ 0 ∷ 1 ∷ [])
