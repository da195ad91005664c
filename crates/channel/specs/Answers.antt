-- The answers on a byte, on a unit or word and on two masks, in numbers. Assumes nothing.
use Rattle.std.specs.Prelude.{cond, Option, Some, None, Result, Ok, Err, List, [], ◌∷◌, ℕ, ◌+◌, eqb, leb}
use Rattle.channel.specs.Bytes.{B, bit_of, dl_byte, dh_byte}
use Rattle.channel.specs.Kinds.{is_dl, is_dh, is_sd, nibble_in, kind_number}
use Rattle.channel.specs.Forms.{fits, unit_byte, word_fits, is_data, unit_in}
use Rattle.channel.specs.Versions.{highest}
use Rattle.channel.specs.declared.byte.ChannelByte.{ChannelByte}
use Rattle.channel.specs.declared.kind.Kind.{Kind}
use Rattle.channel.specs.declared.kind.Kind.TheVariants.{Sgvi, Sgp, Sgr, Dl, Dh, Sd, Other}
use Rattle.channel.specs.declared.unit.Form.{Form}
use Rattle.channel.specs.declared.unit.OutOfRange.{OutOfRange}

-- a kind in numbers: which it is, as the table numbers them (0 for all the rest), and what it carries; an Sd's bits as sent, s3 first
abbrev pub says_kind : Kind → List ℕ
says_kind Sgvi = 4 ∷ []
says_kind (Sgp k) = (5 + k) ∷ []
says_kind Sgr = 10 ∷ []
says_kind (Dl x) = 1 ∷ x ∷ []
says_kind (Dh x) = 2 ∷ x ∷ []
says_kind (Sd s bk) = 3 ∷ bit_of s.s3 ∷ bit_of s.s2 ∷ bit_of s.s1 ∷ bit_of s.s0 ∷ bit_of bk ∷ []
says_kind Other = 0 ∷ []

-- what the kind of a byte has to say
unfoldable pub kind_in_numbers : ℕ → List ℕ
kind_in_numbers b =
    cond (is_dl b) (1 ∷ nibble_in b ∷ [])
    (cond (is_dh b) (2 ∷ nibble_in b ∷ [])
    (cond (is_sd b) (3 ∷ B 1 b ∷ B 2 b ∷ B 3 b ∷ B 4 b ∷ B 5 b ∷ [])
    (cond (leb (kind_number b) 10) (kind_number b ∷ []) (0 ∷ []))))

-- the answers in numbers: 0 and the bytes, or refusal 12; the unit, or nothing
abbrev pub says_encoded : Result ChannelByte OutOfRange → List ℕ
says_encoded (Ok b) = 0 ∷ b.0 ∷ []
says_encoded (Err out_of_range) = 12 ∷ []

abbrev pub says_encoded_word : Result (ChannelByte × ChannelByte) OutOfRange → List ℕ
says_encoded_word (Ok (low, high)) = 0 ∷ low.0 ∷ high.0 ∷ []
says_encoded_word (Err out_of_range) = 12 ∷ []

abbrev pub says_decoded : Option ℕ → List ℕ
says_decoded (Some u) = u ∷ []
says_decoded None = []

-- what they have to say
abbrev pub encoded_in_numbers : Form → ℕ → List ℕ
encoded_in_numbers f u = cond (fits f u) (0 ∷ unit_byte f u ∷ []) (12 ∷ [])

abbrev pub word_in_numbers : ℕ → ℕ → List ℕ
word_in_numbers w v = cond (word_fits w v) (0 ∷ dl_byte v ∷ dh_byte v ∷ []) (12 ∷ [])

abbrev pub decoded_in_numbers : Form → ℕ → List ℕ
decoded_in_numbers f b = cond (is_data f b) (unit_in f b ∷ []) []

-- the answer in numbers: 0 and the version, or refusal 21
abbrev pub says_shared : Option ℕ → List ℕ
says_shared (Some v) = 0 ∷ v ∷ []
says_shared None = 21 ∷ []

-- what it has to say
abbrev pub shared_in_numbers : ℕ → ℕ → List ℕ
shared_in_numbers a b = cond (eqb (highest a b) 0) (21 ∷ []) (0 ∷ highest a b ∷ [])
