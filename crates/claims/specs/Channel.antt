-- Any channel byte, unit and word, and that reading undoes sending. Assumes nothing.
use Rattle.std.specs.Prelude.{◌≡◌, true, false, Some, [], ◌∷◌, ℕ, ◌/◌, ◌%◌, ◌^◌, ◌<◌}
use Rattle.channel.specs.Bytes.{dl_byte, dh_byte}
use Rattle.channel.specs.Kinds.{kind_number, kind_of}
use Rattle.channel.specs.Forms.{units_of, fits, unit_byte, unit_in, is_data, encoded, decoded, ArrivesAs, word_fits, encoded_word, word_of}
use Rattle.channel.specs.Answers.{says_encoded, says_encoded_word, says_decoded}
use Rattle.channel.specs.declared.kind.Kind.TheVariants.{Dl, Dh}
use Rattle.channel.specs.declared.unit.Form.{Form}

pub record ChannelAnswered : Type 0 where
  -- every byte has a kind, one of 14 by number, and B8 has no part in it
  pub kinds : (b : ℕ) → kind_number b < 14
  pub b8 : (a b : ℕ) → a / 2 ≡ b / 2 → kind_of a ≡ kind_of b
  -- a unit that the form has goes as its byte, every other is refused under 12
  pub unit : (f : Form) (u : ℕ) → fits f u ≡ true → says_encoded (encoded f u) ≡ 0 ∷ unit_byte f u ∷ []
  pub unit12 : (f : Form) (u : ℕ) → fits f u ≡ false → says_encoded (encoded f u) ≡ 12 ∷ []
  -- so does a word of w bits, as a DL and a DH
  pub word : (w v : ℕ) → word_fits w v ≡ true → says_encoded_word (encoded_word w v) ≡ 0 ∷ dl_byte v ∷ dh_byte v ∷ []
  pub word12 : (w v : ℕ) → word_fits w v ≡ false → says_encoded_word (encoded_word w v) ≡ 12 ∷ []
  -- a received byte of the form's data has a unit, any other none
  pub received : (f : Form) (b : ℕ) → is_data f b ≡ true → says_decoded (decoded f b) ≡ unit_in f b ∷ []
  pub no_data : (f : Form) (b : ℕ) → is_data f b ≡ false → says_decoded (decoded f b) ≡ []

-- a unit's byte is read as that unit, whatever B8 came as except in form 8; a word's two bytes as a DL and a DH that give the word back
pub record UnitsUndone : Type 0 where
  pub units : (f : Form) (u b : ℕ) → u < units_of f → ArrivesAs f (unit_byte f u) b → decoded f b ≡ Some u
  pub words : (w v low high : ℕ) → v < 2 ^ w → v < 256 → low / 2 ≡ dl_byte v / 2 → high / 2 ≡ dh_byte v / 2
      → (kind_of low ≡ Dl (v % 16)) × (kind_of high ≡ Dh (v / 16)) × (word_of w (v % 16) (v / 16) ≡ v)
