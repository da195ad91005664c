-- Forms of data: units on the channel. d0 is the least bit; B1 goes first. Assumes nothing.
use Rattle.std.specs.Prelude.{◌≡◌, Bool, true, cond, Option, Some, None, Result, Ok, Err, List, [], ◌∷◌, ℕ, ◌+◌, ◌*◌, ◌/◌, ◌%◌, ◌^◌, eqb, ltb}
use Rattle.ground.specs.Digits.{val, bit}
use Rattle.channel.specs.Bytes.{laid, B, byte, dl_byte, dh_byte}
use Rattle.channel.specs.declared.byte.ChannelByte.{ChannelByte}
use Rattle.channel.specs.declared.unit.Form.{Form}
use Rattle.channel.specs.declared.unit.Form.TheVariants.{Six, SevenV1, SevenV2, Eight}
use Rattle.channel.specs.declared.unit.OutOfRange.{OutOfRange}

-- a form has the units 0..63, 0..127 or 0..255
abbrev pub units_of : Form → ℕ
units_of Six = 64
units_of SevenV1 = 128
units_of SevenV2 = 128
units_of Eight = 256

unfoldable pub fits : Form → ℕ → Bool
fits f u = ltb u (units_of f)

-- form 6: B1..B6 = d5..d0, B7 0; form 7, version 1: B1..B7 = d6..d0, version 2: d0..d6; form 8: B1..B8 = d0..d7; B8 is sent as 1 else
unfoldable pub unit_byte : Form → ℕ → ℕ
unit_byte Six u = laid (bit 5 u ∷ bit 4 u ∷ bit 3 u ∷ bit 2 u ∷ bit 1 u ∷ bit 0 u ∷ 0 ∷ 1 ∷ [])
unit_byte SevenV1 u = laid (bit 6 u ∷ bit 5 u ∷ bit 4 u ∷ bit 3 u ∷ bit 2 u ∷ bit 1 u ∷ bit 0 u ∷ 1 ∷ [])
unit_byte SevenV2 u = laid (bit 0 u ∷ bit 1 u ∷ bit 2 u ∷ bit 3 u ∷ bit 4 u ∷ bit 5 u ∷ bit 6 u ∷ 1 ∷ [])
unit_byte Eight u = laid (bit 0 u ∷ bit 1 u ∷ bit 2 u ∷ bit 3 u ∷ bit 4 u ∷ bit 5 u ∷ bit 6 u ∷ bit 7 u ∷ [])

-- the unit in a received byte, d0 first; in form 6 a byte with B7 0 is data
unfoldable pub unit_in : Form → ℕ → ℕ
unit_in Six b = val 2 (B 6 b ∷ B 5 b ∷ B 4 b ∷ B 3 b ∷ B 2 b ∷ B 1 b ∷ [])
unit_in SevenV1 b = val 2 (B 7 b ∷ B 6 b ∷ B 5 b ∷ B 4 b ∷ B 3 b ∷ B 2 b ∷ B 1 b ∷ [])
unit_in SevenV2 b = val 2 (B 1 b ∷ B 2 b ∷ B 3 b ∷ B 4 b ∷ B 5 b ∷ B 6 b ∷ B 7 b ∷ [])
unit_in Eight b = val 2 (B 1 b ∷ B 2 b ∷ B 3 b ∷ B 4 b ∷ B 5 b ∷ B 6 b ∷ B 7 b ∷ B 8 b ∷ [])

abbrev pub is_data : Form → ℕ → Bool
is_data Six b = eqb (B 7 b) 0
is_data SevenV1 b = true
is_data SevenV2 b = true
is_data Eight b = true

unfoldable pub encoded : Form → ℕ → Result ChannelByte OutOfRange
encoded f u = cond (fits f u) (Ok (byte (unit_byte f u))) (Err (record {}))

unfoldable pub decoded : Form → ℕ → Option ℕ
decoded f b = cond (is_data f b) (Some (unit_in f b)) None

-- what may arrive for a unit's byte: B8 may change except in form 8
abbrev pub ArrivesAs : Form → ℕ → ℕ → Type 0
ArrivesAs Six sent got = got / 2 ≡ sent / 2
ArrivesAs SevenV1 sent got = got / 2 ≡ sent / 2
ArrivesAs SevenV2 sent got = got / 2 ≡ sent / 2
ArrivesAs Eight sent got = got ≡ sent

-- the units whose seven bits read the same both ways: on these alone the versions of form 7 agree
unfoldable pub same_both_ways : List ℕ
same_both_ways = 0 ∷ 8 ∷ 20 ∷ 28 ∷ 34 ∷ 42 ∷ 54 ∷ 62 ∷ 65 ∷ 73 ∷ 85 ∷ 93 ∷ 99 ∷ 107 ∷ 119 ∷ 127 ∷ []

-- form 0: a word of w bits, DL then DH, unused bits 0; the received value is taken modulo 2^w
unfoldable pub word_fits : ℕ → ℕ → Bool
word_fits w v = ltb v (2 ^ w)

unfoldable pub encoded_word : ℕ → ℕ → Result (ChannelByte × ChannelByte) OutOfRange
encoded_word w v = cond (word_fits w v) (Ok (byte (dl_byte v), byte (dh_byte v))) (Err (record {}))

unfoldable pub word_of : ℕ → ℕ → ℕ → ℕ
word_of w low high = (low % 16 + high % 16 * 16) % 2 ^ w
