-- Figures of the channel's bytes, kinds, forms, versions and vote: beside each what this paper says. All of it is computed. Assumes nothing.
use mathlib.Core.Path.{◌≡◌, refl}
use mathlib.Core.Bool.{true, false}
use mathlib.Core.List.{[], ◌∷◌, map}
use native.Mathlib.Omega.{arith}
use Rattle.ground.specs.Digits.{val}
use Rattle.channel.specs.Bytes.{laid, sgvi, sgp, sgr, sgss, sgidle, sgdis, sdidle, signalling, sd_byte, dl_byte, dh_byte}
use Rattle.channel.specs.Kinds.{kind_number, nibble_in, leads_in, kind_from, kind_of}
use Rattle.channel.specs.Forms.{fits, unit_byte, unit_in, ArrivesAs, encoded, decoded}
use Rattle.channel.specs.Forms.{word_fits, encoded_word, word_of}
use Rattle.channel.specs.Versions.{highest_up_to, highest, shared}
use Rattle.channel.specs.Answers.{says_kind, says_encoded, says_decoded, says_encoded_word, says_shared}
use Rattle.channel.specs.Vote.{majorities, voted, as_sent}
use Rattle.channel.specs.declared.unit.Form.TheVariants.{Six, SevenV1, SevenV2, Eight}
use Rattle.channel.proofs.ReadBack.{lead}

pub record BytesAsListed : Type 0 where
  -- Sgvi 57, Sgp0 to Sgp4 07 17 27 37 47, Sgr 67, Sgss 77, Sgidle 7F, Sgdis FF; Sdidle 43
  pub codes : sgvi ∷ sgp 0 ∷ sgp 1 ∷ sgp 2 ∷ sgp 3 ∷ sgp 4 ∷ sgr ∷ sgss ∷ sgidle ∷ sgdis ∷ sdidle ∷ []
      ≡ 0x57 ∷ 0x07 ∷ 0x17 ∷ 0x27 ∷ 0x37 ∷ 0x47 ∷ 0x67 ∷ 0x77 ∷ 0x7F ∷ 0xFF ∷ 0x43 ∷ []
  -- the same by their numbers, 4 to 13
  pub numbered : map signalling (4 ∷ 5 ∷ 6 ∷ 7 ∷ 8 ∷ 9 ∷ 10 ∷ 11 ∷ 12 ∷ 13 ∷ [])
      ≡ 0x57 ∷ 0x07 ∷ 0x17 ∷ 0x27 ∷ 0x37 ∷ 0x47 ∷ 0x67 ∷ 0x77 ∷ 0x7F ∷ 0xFF ∷ []
  -- and Sdidle for any other
  pub other_numbers : map signalling (0 ∷ 1 ∷ 2 ∷ 3 ∷ 14 ∷ 255 ∷ []) ≡ 0x43 ∷ 0x43 ∷ 0x43 ∷ 0x43 ∷ 0x43 ∷ 0x43 ∷ []
  -- s3 s2 s1 s0 BK 0 1 1, bit by bit
  pub sd : map (λ s. sd_byte s false)
      (lead false false false false ∷ lead true false false false ∷ lead false true false false ∷ lead false false true false
      ∷ lead false false false true ∷ lead true true true true ∷ [])
      ≡ 0x03 ∷ 0x83 ∷ 0x43 ∷ 0x23 ∷ 0x13 ∷ 0xF3 ∷ []
  pub sd_break : map (λ s. sd_byte s true) (lead false false false false ∷ lead true true true true ∷ []) ≡ 0x0B ∷ 0xFB ∷ []
  -- DL carries bits 3..0, then 0101; DH bits 7..4, then 1101
  pub dl : map dl_byte (0x00 ∷ 0x01 ∷ 0x02 ∷ 0x04 ∷ 0x08 ∷ 0x10 ∷ 0x20 ∷ 0x40 ∷ 0x80 ∷ 0xA5 ∷ 0xFF ∷ [])
      ≡ 0x05 ∷ 0x15 ∷ 0x25 ∷ 0x45 ∷ 0x85 ∷ 0x05 ∷ 0x05 ∷ 0x05 ∷ 0x05 ∷ 0x55 ∷ 0xF5 ∷ []
  pub dh : map dh_byte (0x00 ∷ 0x01 ∷ 0x02 ∷ 0x04 ∷ 0x08 ∷ 0x10 ∷ 0x20 ∷ 0x40 ∷ 0x80 ∷ 0xA5 ∷ 0xFF ∷ [])
      ≡ 0x0D ∷ 0x0D ∷ 0x0D ∷ 0x0D ∷ 0x0D ∷ 0x1D ∷ 0x2D ∷ 0x4D ∷ 0x8D ∷ 0xAD ∷ 0xFD ∷ []

pub bytes_as_listed : BytesAsListed
unfolding signalling sd_byte dl_byte dh_byte laid val
bytes_as_listed = record { codes = refl; numbered = refl; other_numbers = refl; sd = refl; sd_break = refl; dl = refl; dh = refl }

-- a kind's number, and what it carries
pub record KindsAsRead : Type 0 where
  -- Sgvi and Sgp0 to Sgp4, B8 on and off
  pub awaited : map (λ b. says_kind (kind_of b)) (0x57 ∷ 0x07 ∷ 0x17 ∷ 0x27 ∷ 0x37 ∷ 0x47 ∷ 0x56 ∷ 0x06 ∷ 0x16 ∷ 0x26 ∷ 0x36 ∷ 0x46 ∷ [])
      ≡ (4 ∷ []) ∷ (5 ∷ []) ∷ (6 ∷ []) ∷ (7 ∷ []) ∷ (8 ∷ []) ∷ (9 ∷ []) ∷ (4 ∷ []) ∷ (5 ∷ []) ∷ (6 ∷ []) ∷ (7 ∷ []) ∷ (8 ∷ []) ∷ (9 ∷ []) ∷ []
  -- Sgr, B8 on and off, and beside it Sgp4 and Sgss
  pub sgr : map (λ b. says_kind (kind_of b)) (0x67 ∷ 0x66 ∷ 0x47 ∷ 0x46 ∷ 0x77 ∷ 0x76 ∷ [])
      ≡ (10 ∷ []) ∷ (10 ∷ []) ∷ (9 ∷ []) ∷ (9 ∷ []) ∷ (0 ∷ []) ∷ (0 ∷ []) ∷ []
  -- DL and DH, the nibble's top bit in B1
  pub dl : map (λ b. says_kind (kind_of b)) (0x05 ∷ 0x15 ∷ 0x25 ∷ 0x45 ∷ 0x85 ∷ 0xF5 ∷ 0xA4 ∷ [])
      ≡ (1 ∷ 0 ∷ []) ∷ (1 ∷ 1 ∷ []) ∷ (1 ∷ 2 ∷ []) ∷ (1 ∷ 4 ∷ []) ∷ (1 ∷ 8 ∷ []) ∷ (1 ∷ 15 ∷ []) ∷ (1 ∷ 10 ∷ []) ∷ []
  pub dh : map (λ b. says_kind (kind_of b)) (0x0D ∷ 0x1D ∷ 0x2D ∷ 0x4D ∷ 0x8D ∷ 0xFD ∷ 0xAC ∷ [])
      ≡ (2 ∷ 0 ∷ []) ∷ (2 ∷ 1 ∷ []) ∷ (2 ∷ 2 ∷ []) ∷ (2 ∷ 4 ∷ []) ∷ (2 ∷ 8 ∷ []) ∷ (2 ∷ 15 ∷ []) ∷ (2 ∷ 10 ∷ []) ∷ []
  -- Sd: s3 s2 s1 s0 BK; Didle (02) and the Sd with all bits off (03) both read as that Sd
  pub sd : map (λ b. says_kind (kind_of b)) (0x02 ∷ 0x03 ∷ 0x83 ∷ 0x43 ∷ 0x23 ∷ 0x13 ∷ 0x0B ∷ 0xFB ∷ 0xFA ∷ [])
      ≡ (3 ∷ 0 ∷ 0 ∷ 0 ∷ 0 ∷ 0 ∷ []) ∷ (3 ∷ 0 ∷ 0 ∷ 0 ∷ 0 ∷ 0 ∷ []) ∷ (3 ∷ 1 ∷ 0 ∷ 0 ∷ 0 ∷ 0 ∷ []) ∷ (3 ∷ 0 ∷ 1 ∷ 0 ∷ 0 ∷ 0 ∷ [])
      ∷ (3 ∷ 0 ∷ 0 ∷ 1 ∷ 0 ∷ 0 ∷ []) ∷ (3 ∷ 0 ∷ 0 ∷ 0 ∷ 1 ∷ 0 ∷ []) ∷ (3 ∷ 0 ∷ 0 ∷ 0 ∷ 0 ∷ 1 ∷ []) ∷ (3 ∷ 1 ∷ 1 ∷ 1 ∷ 1 ∷ 1 ∷ [])
      ∷ (3 ∷ 1 ∷ 1 ∷ 1 ∷ 1 ∷ 1 ∷ []) ∷ []
  -- Sgss, Sgidle, Sgdis and unassigned bytes have no effect
  pub others : map (λ b. says_kind (kind_of b)) (0x77 ∷ 0x76 ∷ 0x7F ∷ 0x7E ∷ 0xFF ∷ 0xFE ∷ 0x00 ∷ 0x08 ∷ 0x0F ∷ 0x87 ∷ 0xF7 ∷ [])
      ≡ (0 ∷ []) ∷ (0 ∷ []) ∷ (0 ∷ []) ∷ (0 ∷ []) ∷ (0 ∷ []) ∷ (0 ∷ []) ∷ (0 ∷ []) ∷ (0 ∷ []) ∷ (0 ∷ []) ∷ (0 ∷ []) ∷ (0 ∷ []) ∷ []
  -- the table's numbers of Sgr and of these
  pub numbers : map kind_number (0x67 ∷ 0x66 ∷ 0x77 ∷ 0x76 ∷ 0x7F ∷ 0x7E ∷ 0xFF ∷ 0xFE ∷ 0x00 ∷ 0x08 ∷ 0x0F ∷ 0x87 ∷ 0xF7 ∷ [])
      ≡ 10 ∷ 10 ∷ 11 ∷ 11 ∷ 12 ∷ 12 ∷ 13 ∷ 13 ∷ 0 ∷ 0 ∷ 0 ∷ 0 ∷ 0 ∷ []

pub kinds_as_read : KindsAsRead
unfolding kind_of kind_from kind_number nibble_in leads_in val
kinds_as_read = record { awaited = refl; sgr = refl; dl = refl; dh = refl; sd = refl; others = refl; numbers = refl }

pub record UnitsAsLaid : Type 0 where
  -- form 6, 0..63: B1..B6 = d5..d0, B7 0
  pub six : map (λ u. says_encoded (encoded Six u)) (0 ∷ 1 ∷ 2 ∷ 4 ∷ 8 ∷ 16 ∷ 32 ∷ 63 ∷ 64 ∷ 255 ∷ [])
      ≡ (0 ∷ 0x01 ∷ []) ∷ (0 ∷ 0x05 ∷ []) ∷ (0 ∷ 0x09 ∷ []) ∷ (0 ∷ 0x11 ∷ []) ∷ (0 ∷ 0x21 ∷ []) ∷ (0 ∷ 0x41 ∷ []) ∷ (0 ∷ 0x81 ∷ [])
      ∷ (0 ∷ 0xFD ∷ []) ∷ (12 ∷ []) ∷ (12 ∷ []) ∷ []
  -- form 7, version 1, 0..127: B1..B7 = d6..d0
  pub seven_v1 : map (λ u. says_encoded (encoded SevenV1 u)) (0 ∷ 1 ∷ 2 ∷ 4 ∷ 8 ∷ 16 ∷ 32 ∷ 64 ∷ 127 ∷ 128 ∷ 255 ∷ [])
      ≡ (0 ∷ 0x01 ∷ []) ∷ (0 ∷ 0x03 ∷ []) ∷ (0 ∷ 0x05 ∷ []) ∷ (0 ∷ 0x09 ∷ []) ∷ (0 ∷ 0x11 ∷ []) ∷ (0 ∷ 0x21 ∷ []) ∷ (0 ∷ 0x41 ∷ [])
      ∷ (0 ∷ 0x81 ∷ []) ∷ (0 ∷ 0xFF ∷ []) ∷ (12 ∷ []) ∷ (12 ∷ []) ∷ []
  -- form 7, version 2, 0..127: B1..B7 = d0..d6
  pub seven_v2 : map (λ u. says_encoded (encoded SevenV2 u)) (0 ∷ 1 ∷ 2 ∷ 4 ∷ 8 ∷ 16 ∷ 32 ∷ 64 ∷ 127 ∷ 128 ∷ 255 ∷ [])
      ≡ (0 ∷ 0x01 ∷ []) ∷ (0 ∷ 0x81 ∷ []) ∷ (0 ∷ 0x41 ∷ []) ∷ (0 ∷ 0x21 ∷ []) ∷ (0 ∷ 0x11 ∷ []) ∷ (0 ∷ 0x09 ∷ []) ∷ (0 ∷ 0x05 ∷ [])
      ∷ (0 ∷ 0x03 ∷ []) ∷ (0 ∷ 0xFF ∷ []) ∷ (12 ∷ []) ∷ (12 ∷ []) ∷ []
  -- form 8, 0..255: B1..B8 = d0..d7
  pub eight : map (λ u. says_encoded (encoded Eight u)) (0 ∷ 1 ∷ 2 ∷ 4 ∷ 8 ∷ 16 ∷ 32 ∷ 64 ∷ 128 ∷ 255 ∷ 256 ∷ [])
      ≡ (0 ∷ 0x00 ∷ []) ∷ (0 ∷ 0x80 ∷ []) ∷ (0 ∷ 0x40 ∷ []) ∷ (0 ∷ 0x20 ∷ []) ∷ (0 ∷ 0x10 ∷ []) ∷ (0 ∷ 0x08 ∷ []) ∷ (0 ∷ 0x04 ∷ [])
      ∷ (0 ∷ 0x02 ∷ []) ∷ (0 ∷ 0x01 ∷ []) ∷ (0 ∷ 0xFF ∷ []) ∷ (12 ∷ []) ∷ []
  -- the unit in a byte with one of B1 to B8 on; in form 6 a byte with B7 on is no data
  pub in_six_lem : map (λ b. says_decoded (decoded Six b)) (0x80 ∷ 0x40 ∷ 0x20 ∷ 0x10 ∷ 0x08 ∷ 0x04 ∷ 0x02 ∷ 0x01 ∷ 0xFD ∷ 0xFF ∷ [])
      ≡ (32 ∷ []) ∷ (16 ∷ []) ∷ (8 ∷ []) ∷ (4 ∷ []) ∷ (2 ∷ []) ∷ (1 ∷ []) ∷ [] ∷ (0 ∷ []) ∷ (63 ∷ []) ∷ [] ∷ []
  pub in_seven_v1 : map (λ b. says_decoded (decoded SevenV1 b)) (0x80 ∷ 0x40 ∷ 0x20 ∷ 0x10 ∷ 0x08 ∷ 0x04 ∷ 0x02 ∷ 0x01 ∷ 0xFF ∷ [])
      ≡ (64 ∷ []) ∷ (32 ∷ []) ∷ (16 ∷ []) ∷ (8 ∷ []) ∷ (4 ∷ []) ∷ (2 ∷ []) ∷ (1 ∷ []) ∷ (0 ∷ []) ∷ (127 ∷ []) ∷ []
  pub in_seven_v2 : map (λ b. says_decoded (decoded SevenV2 b)) (0x80 ∷ 0x40 ∷ 0x20 ∷ 0x10 ∷ 0x08 ∷ 0x04 ∷ 0x02 ∷ 0x01 ∷ 0xFF ∷ [])
      ≡ (1 ∷ []) ∷ (2 ∷ []) ∷ (4 ∷ []) ∷ (8 ∷ []) ∷ (16 ∷ []) ∷ (32 ∷ []) ∷ (64 ∷ []) ∷ (0 ∷ []) ∷ (127 ∷ []) ∷ []
  pub in_eight : map (λ b. says_decoded (decoded Eight b)) (0x80 ∷ 0x40 ∷ 0x20 ∷ 0x10 ∷ 0x08 ∷ 0x04 ∷ 0x02 ∷ 0x01 ∷ 0xFF ∷ [])
      ≡ (1 ∷ []) ∷ (2 ∷ []) ∷ (4 ∷ []) ∷ (8 ∷ []) ∷ (16 ∷ []) ∷ (32 ∷ []) ∷ (64 ∷ []) ∷ (128 ∷ []) ∷ (255 ∷ []) ∷ []
  -- B8 may change anywhere except in form 8, and B7 nowhere
  pub b8_changes : ArrivesAs Six 0x85 0x84 × ArrivesAs SevenV1 0x85 0x84 × ArrivesAs SevenV2 0x85 0x84
  pub b8_stays : ArrivesAs Eight 0x85 0x84 → ⊥
  pub b7_stays : (ArrivesAs Six 0x85 0x87 → ⊥) × (ArrivesAs SevenV1 0x85 0x87 → ⊥) × (ArrivesAs SevenV2 0x85 0x87 → ⊥)

pub units_as_laid : UnitsAsLaid
unfolding encoded fits unit_byte decoded unit_in laid val
units_as_laid =
    record {
      six = refl;
      seven_v1 = refl;
      seven_v2 = refl;
      eight = refl;
      in_six_lem = refl;
      in_seven_v1 = refl;
      in_seven_v2 = refl;
      in_eight = refl;
      b8_changes = (refl, refl, refl);
      b8_stays = λ e. omega (arith, e);
      b7_stays = (λ e. omega (arith, e), λ e. omega (arith, e), λ e. omega (arith, e));
    }

pub record WordsAsLaid : Type 0 where
  -- a word of w bits, w 5 to 8, DL then DH, unused bits 0
  pub five : map (λ v. says_encoded_word (encoded_word 5 v)) (0 ∷ 31 ∷ 32 ∷ [])
      ≡ (0 ∷ 0x05 ∷ 0x0D ∷ []) ∷ (0 ∷ 0xF5 ∷ 0x1D ∷ []) ∷ (12 ∷ []) ∷ []
  pub six : map (λ v. says_encoded_word (encoded_word 6 v)) (32 ∷ 63 ∷ 64 ∷ [])
      ≡ (0 ∷ 0x05 ∷ 0x2D ∷ []) ∷ (0 ∷ 0xF5 ∷ 0x3D ∷ []) ∷ (12 ∷ []) ∷ []
  pub seven : map (λ v. says_encoded_word (encoded_word 7 v)) (64 ∷ 127 ∷ 128 ∷ [])
      ≡ (0 ∷ 0x05 ∷ 0x4D ∷ []) ∷ (0 ∷ 0xF5 ∷ 0x7D ∷ []) ∷ (12 ∷ []) ∷ []
  pub eight : map (λ v. says_encoded_word (encoded_word 8 v)) (128 ∷ 0xA5 ∷ 255 ∷ 256 ∷ [])
      ≡ (0 ∷ 0x05 ∷ 0x8D ∷ []) ∷ (0 ∷ 0x55 ∷ 0xAD ∷ []) ∷ (0 ∷ 0xF5 ∷ 0xFD ∷ []) ∷ (12 ∷ []) ∷ []
  -- the nibbles A and 5, and F and F: the received value is taken modulo 2^w
  pub low_and_high : map (λ w. word_of w 0xA 0x5) (5 ∷ 6 ∷ 7 ∷ 8 ∷ []) ≡ 0x1A ∷ 0x1A ∷ 0x5A ∷ 0x5A ∷ []
  pub modulo : map (λ w. word_of w 0xF 0xF) (5 ∷ 6 ∷ 7 ∷ 8 ∷ []) ≡ 31 ∷ 63 ∷ 127 ∷ 255 ∷ []
  -- of what is handed in as a nibble its four low bits count
  pub nibbles : word_of 8 0x1A 0x25 ≡ 0x5A

pub words_as_laid : WordsAsLaid
unfolding encoded_word word_fits word_of dl_byte dh_byte laid val
words_as_laid = record { five = refl; six = refl; seven = refl; eight = refl; low_and_high = refl; modulo = refl; nibbles = refl }

pub record VersionsAsChosen : Type 0 where
  -- both masks are ANDed; the highest set bit wins, bit 0 being version 1
  pub each_bit : map (λ m. says_shared (shared m 0xFF)) (0x01 ∷ 0x02 ∷ 0x04 ∷ 0x08 ∷ 0x10 ∷ 0x20 ∷ 0x40 ∷ 0x80 ∷ [])
      ≡ (0 ∷ 1 ∷ []) ∷ (0 ∷ 2 ∷ []) ∷ (0 ∷ 3 ∷ []) ∷ (0 ∷ 4 ∷ []) ∷ (0 ∷ 5 ∷ []) ∷ (0 ∷ 6 ∷ []) ∷ (0 ∷ 7 ∷ []) ∷ (0 ∷ 8 ∷ []) ∷ []
  -- with mask 3, and with mask 1: not the larger mask, and not its highest bit
  pub with_3 : map (λ m. says_shared (shared 3 m)) (0 ∷ 1 ∷ 2 ∷ 3 ∷ 0x80 ∷ 0x81 ∷ 0x82 ∷ [])
      ≡ (21 ∷ []) ∷ (0 ∷ 1 ∷ []) ∷ (0 ∷ 2 ∷ []) ∷ (0 ∷ 2 ∷ []) ∷ (21 ∷ []) ∷ (0 ∷ 1 ∷ []) ∷ (0 ∷ 2 ∷ []) ∷ []
  pub with_1 : map (λ m. says_shared (shared m 1)) (0 ∷ 1 ∷ 2 ∷ 3 ∷ []) ≡ (21 ∷ []) ∷ (0 ∷ 1 ∷ []) ∷ (21 ∷ []) ∷ (0 ∷ 1 ∷ []) ∷ []
  -- the masks of a book have the versions 1 and 2
  pub highest_3 : map (λ m. highest 3 m) (0 ∷ 1 ∷ 2 ∷ 3 ∷ []) ≡ 0 ∷ 1 ∷ 2 ∷ 2 ∷ []

pub versions_as_chosen : VersionsAsChosen
unfolding shared highest highest_up_to
versions_as_chosen = record { each_bit = refl; with_3 = refl; with_1 = refl; highest_3 = refl }

pub record VotesAsCounted : Type 0 where
  -- the majority of the three copies bit by bit: each copy in turn is wrong, at every bit and at one
  pub one_wrong : voted 0xA5 0xA5 0x5A ∷ voted 0xA5 0x5A 0xA5 ∷ voted 0x5A 0xA5 0xA5 ∷ voted 0x83 0x03 0x03 ∷ voted 0x03 0x02 0x03 ∷ []
      ≡ 0xA5 ∷ 0xA5 ∷ 0xA5 ∷ 0x03 ∷ 0x03 ∷ []
  -- each wrong at another bit
  pub each_wrong : voted 0x03 0x0B 0x02 ∷ voted 0x7F 0xFE 0xEF ∷ voted 0x01 0x10 0x80 ∷ [] ≡ 0x03 ∷ 0xFF ∷ 0x00 ∷ []
  -- three alike
  pub alike : voted 0x00 0x00 0x00 ∷ voted 0xFF 0xFF 0xFF ∷ [] ≡ 0x00 ∷ 0xFF ∷ []
  -- a copy that has a bit as it was sent counts 1
  pub as_sent_lem : map (λ i. as_sent i 0x0B 0x03) (0 ∷ 1 ∷ 2 ∷ 3 ∷ 4 ∷ []) ≡ 1 ∷ 1 ∷ 1 ∷ 0 ∷ 1 ∷ []

pub votes_as_counted : VotesAsCounted
unfolding voted majorities val
votes_as_counted = record { one_wrong = refl; each_wrong = refl; alike = refl; as_sent_lem = refl }
