-- The answers of one end in numbers, at figures. Each is computed. Assumes nothing.
use Rattle.std.specs.Prelude.{Some, None, Err}
use mathlib.Core.Path.{◌≡◌, refl}
use mathlib.Core.Bool.{true, false}
use mathlib.Core.List.{List, [], ◌∷◌, map}
use Prim.Native.Nat.{ℕ}
use Rattle.channel.specs.Bytes.{byte}
use Rattle.channel.specs.declared.unit.Form.TheVariants.{Six, SevenV2, Eight}
use Rattle.protocol.specs.Answers.{says_delivered, says_outcome, says_reply, delivers_of, stands_in, slot_says}
use Rattle.protocol.proofs.Computing.{computing}
use Rattle.protocol.specs.Slot.{passed_with}
use Rattle.protocol.specs.declared.Shape.{Shape}
use Rattle.protocol.specs.declared.Shape.TheVariants as shape
use Rattle.protocol.specs.declared.Inbound.{Inbound}
use Rattle.protocol.specs.declared.Phase.TheVariants as phase
use Rattle.protocol.specs.declared.Endpoint.{Endpoint}
use Rattle.protocol.specs.declared.Outcome.TheVariants as outcome
use Rattle.protocol.proofs.Figures.Rows.{profile, book_of, signals, nothing, offers, exchanging, six, opened, sent, got, idle_got}
use Rattle.protocol.specs.declared.Awaited.TheVariants.{Run}
use Rattle.protocol.specs.declared.Sending.TheVariants.{Hail}
use Rattle.protocol.specs.declared.SlotRefusal.TheVariants.{UnitOutOfRange, OutsideRanges}

-- words of 8 bits, the first bytes having gone, one Sd with s3 and BK on come, and then a DL with 5
abbrev words : Endpoint
words = opened (book_of 1 3 500 (profile 0 8 ∷ [])) 2 (sent 16 None 0 0) (got (Some 5) 0 (signals 1 1 0 0 1) (signals 0 1 0 0 0))

-- what each shape delivers of these bytes in this state
abbrev delivers : Shape → Inbound → List ℕ → List (List ℕ)
delivers s i bytes = map (delivers_of s i) bytes

abbrev holding : Inbound
holding = got (Some 5) 0 (signals 0 1 0 0 0) (signals 0 1 0 0 0)

abbrev paired : ℕ → Inbound
paired n = got None n (signals 0 1 0 0 0) (signals 0 1 0 0 0)

pub record AnswerFigures : Type 0 where
  -- each case of an answer
  pub units : map says_delivered (None ∷ Some 165 ∷ []) ≡ [] ∷ (165 ∷ []) ∷ []
  pub exchange : says_outcome outcome.Exchanging ≡ []
  pub refused : map says_outcome (outcome.Refused 21 43 ∷ outcome.Refused 22 424 ∷ outcome.Refused 23 499 ∷ []) ≡ (21 ∷ 43 ∷ []) ∷ (22 ∷ 424 ∷ []) ∷ (23 ∷ 499 ∷ []) ∷ []
  pub open_end : says_outcome (outcome.Open 2 (profile 0 8) 424 (signals 1 0 0 1 0))
      ≡ 0 ∷ 2 ∷ 0xA1 ∷ 0xB2 ∷ 0xC3 ∷ 0xD4 ∷ 0xE5 ∷ 0 ∷ 8 ∷ 424 ∷ 1 ∷ 0 ∷ 0 ∷ 1 ∷ 0 ∷ []
  pub other_end : says_outcome (outcome.Open 1 (profile 6 0) 260 (signals 0 1 0 0 1))
      ≡ 0 ∷ 1 ∷ 0xA1 ∷ 0xB2 ∷ 0xC3 ∷ 0xD4 ∷ 0xE5 ∷ 6 ∷ 0 ∷ 260 ∷ 0 ∷ 0 ∷ 1 ∷ 0 ∷ 1 ∷ []
  pub slots : map says_reply (Err UnitOutOfRange ∷ Err OutsideRanges ∷ []) ≡ (12 ∷ []) ∷ (13 ∷ []) ∷ []
  pub passed : map says_reply
      (passed_with (byte 0x57) None false outcome.Exchanging
      ∷ passed_with (byte 0x43) (Some 9) true (outcome.Refused 21 43)
      ∷ [])
      ≡ (0 ∷ 0x57 ∷ 0 ∷ []) ∷ (0 ∷ 0x43 ∷ 9 ∷ 1 ∷ 21 ∷ 43 ∷ []) ∷ []
  -- what a state gives
  pub words_given : delivers (shape.Word 8) holding (0xAD ∷ 0xA5 ∷ 0x43 ∷ 0x57 ∷ 0x07 ∷ 0x7F ∷ []) ≡ (0xA5 ∷ []) ∷ [] ∷ [] ∷ [] ∷ [] ∷ [] ∷ []
  pub wordless : delivers (shape.Word 8) idle_got (0xAD ∷ 0xA5 ∷ []) ≡ [] ∷ [] ∷ []
  pub broken : delivers (shape.Word 8) (got (Some 5) 0 (signals 0 1 0 0 0) (signals 0 1 0 0 1)) (0xAD ∷ []) ≡ [] ∷ []
  pub sixes : delivers (shape.Unit Six) idle_got (0x85 ∷ 0x87 ∷ []) ≡ (0x21 ∷ []) ∷ [] ∷ []
  pub streams : map (λ (i : Inbound). delivers_of (shape.Unit SevenV2) i 0x81) (paired 0 ∷ paired 1 ∷ paired 2 ∷ []) ≡ [] ∷ [] ∷ (1 ∷ []) ∷ []
  pub octets : delivers (shape.Unit Eight) (paired 2) (0x80 ∷ 0x43 ∷ []) ≡ (1 ∷ []) ∷ (194 ∷ []) ∷ []
  pub stands : stands_in words words.phase ≡ 0 ∷ 2 ∷ 0xA1 ∷ 0xB2 ∷ 0xC3 ∷ 0xD4 ∷ 0xE5 ∷ 0 ∷ 8 ∷ 300 ∷ 0 ∷ 0 ∷ 1 ∷ 0 ∷ 0 ∷ []
  pub stands_refused : stands_in words (phase.Refused 22 424) ≡ 22 ∷ 424 ∷ []
  pub stands_exchanging : stands_in words (phase.Exchanging 5 0 (Run 0 0) (Hail 0)) ≡ []
  -- 13 first, then 12, then the slot
  pub thirteen : slot_says (record { book = words.book; nibbles = six []; values = six []; phase = phase.Refused 20 43 }) 0x43 (offers 9) ≡ 13 ∷ []
  pub twelve : slot_says (opened (book_of 1 3 500 (profile 0 7 ∷ [])) 2 (sent 16 None 0 0) idle_got) 0x43 (offers 128) ≡ 12 ∷ []
  pub slot : slot_says words 0xAD (offers 0x3C)
      ≡ 0 ∷ 0xC5 ∷ 0xA5 ∷ 1 ∷ 0 ∷ 2 ∷ 0xA1 ∷ 0xB2 ∷ 0xC3 ∷ 0xD4 ∷ 0xE5 ∷ 0 ∷ 8 ∷ 300 ∷ 0 ∷ 0 ∷ 1 ∷ 0 ∷ 0 ∷ []
  pub idle_slot : slot_says (exchanging (book_of 1 3 500 (profile 0 8 ∷ [])) 5 0 (Run 0 0) (six []) (six []) (Hail 0)) 0x43 nothing ≡ 0 ∷ 0x57 ∷ 0 ∷ []

pub answer_figures : AnswerFigures
unfolding computing delivers_of stands_in slot_says
answer_figures =
    record {
      units = refl;
      exchange = refl;
      refused = refl;
      open_end = refl;
      other_end = refl;
      slots = refl;
      passed = refl;
      words_given = refl;
      wordless = refl;
      broken = refl;
      sixes = refl;
      streams = refl;
      octets = refl;
      stands = refl;
      stands_refused = refl;
      stands_exchanging = refl;
      thirteen = refl;
      twelve = refl;
      slot = refl;
      idle_slot = refl;
    }
