-- The samples P1 to P12: beside each what the definitions give, in numbers, and what the paper writes. Assumes nothing.
use Rattle.std.specs.Prelude.{List, [], ◌∷◌, ℕ}
use Rattle.channel.specs.Kinds.{kind_of}
use Rattle.channel.specs.Forms.{encoded, encoded_word}
use Rattle.channel.specs.Versions.{shared}
use Rattle.channel.specs.Answers.{says_kind, says_encoded, says_encoded_word, says_shared}
use Rattle.channel.specs.Vote.{voted}
use Rattle.channel.specs.declared.unit.Form.TheVariants.{Six, SevenV1, SevenV2, Eight}
use Rattle.packing.specs.FormsOfData.{packed}
use Rattle.packing.specs.NumbersOfRefusal.{unpack_refusal}

-- a sample's number, what is defined, and what is written
pub record Sample : Type 0 where
  pub p : ℕ
  pub defined : List ℕ
  pub written : List ℕ

-- where an answer may be a refusal, its number stands first, 0 for none
unfoldable pub samples : List Sample
samples =
    -- word A5, w 8: 55 AD
    record { p = 1; defined = says_encoded_word (encoded_word 8 0xA5); written = 0 ∷ 0x55 ∷ 0xAD ∷ [] }
    -- form 6 unit 21 hex: 85
    ∷ record { p = 2; defined = says_encoded (encoded Six 0x21); written = 0 ∷ 0x85 ∷ [] }
    -- form 7 unit 1: 03 in version 1, 81 in version 2
    ∷ record { p = 3; defined = says_encoded (encoded SevenV1 1); written = 0 ∷ 0x03 ∷ [] }
    ∷ record { p = 4; defined = says_encoded (encoded SevenV2 1); written = 0 ∷ 0x81 ∷ [] }
    -- form 8 unit 1: 80
    ∷ record { p = 5; defined = says_encoded (encoded Eight 1); written = 0 ∷ 0x80 ∷ [] }
    -- octets 01 02 03, form 6: units 1 8 48 0
    ∷ record { p = 6; defined = packed 6 (0x01 ∷ 0x02 ∷ 0x03 ∷ []); written = 1 ∷ 8 ∷ 48 ∷ 0 ∷ [] }
    -- octet FF, form 6: 63 3
    ∷ record { p = 7; defined = packed 6 (0xFF ∷ []); written = 63 ∷ 3 ∷ [] }
    -- one unit 0, form 6: refused 16
    ∷ record { p = 8; defined = unpack_refusal 6 (0 ∷ []) 1 0 ∷ []; written = 16 ∷ [] }
    -- copies 03 0B 02 vote 03
    ∷ record { p = 9; defined = voted 0x03 0x0B 0x02 ∷ []; written = 0x03 ∷ [] }
    -- masks 3 and 81 hex: version 1; masks 3 and 80 hex: none, 21
    ∷ record { p = 10; defined = says_shared (shared 3 0x81); written = 0 ∷ 1 ∷ [] }
    ∷ record { p = 11; defined = says_shared (shared 3 0x80); written = 21 ∷ [] }
    -- byte 02 in the exchange: Sd, number 3 of the kinds, all off
    ∷ record { p = 12; defined = says_kind (kind_of 0x02); written = 3 ∷ 0 ∷ 0 ∷ 0 ∷ 0 ∷ 0 ∷ [] }
    ∷ []
