-- Lines and scripts at figures, by computation. Assumes nothing.
use Rattle.std.specs.Prelude.{Some, None, Err}
use mathlib.Core.Path.{◌≡◌, refl}
use mathlib.Core.Bool.{true, false}
use mathlib.Core.List.{List, [], ◌∷◌, ◌++◌}
use Prim.Native.Nat.{ℕ}
use Rattle.book.specs.Reading.{read_book}
use Rattle.channel.specs.Bytes.{byte}
use Rattle.protocol.specs.declared.Signals.{Signals}
use Rattle.protocol.specs.declared.Outcome.{Outcome}
use Rattle.protocol.specs.declared.Outcome.TheVariants.{Exchanging, Open, Refused}
use Rattle.protocol.specs.declared.SlotRefusal.TheVariants.{UnitOutOfRange}
use Rattle.protocol.proofs.Computing.{computing}
use Rattle.protocol.specs.Slot.{start_of, passed_with}
use Rattle.text.specs.Ascii.{ascii}
use Rattle.text.specs.Numerals.{decimal_of, hex_of, parameters_of}
use Rattle.script.specs.Input.{slots_fault, script_fault, drive_of}
use Rattle.script.specs.Line.{sent_field, delivered_field, taken_field, signal_digits, signals_field, stands_field, detail_field, refusal_note, reply_fields, outcome_fields, line_of}
use Rattle.script.specs.Output.{lines_from, book_refused, script_says}

-- s2 and BK on
abbrev signals : Signals
signals = record { leads = record { s0 = false; s1 = false; s2 = true; s3 = false }; bk = true }

abbrev opened : Outcome
opened = Open 2 (record { p0 = 0x01; p1 = 0xA2; p2 = 3; p3 = 4; p4 = 5; form = 0; w = 8 }) 424 signals

-- an answering unit's book of 17 bytes, with this mask
abbrev book : ℕ → List ℕ
book mask = 0x54 ∷ 0x4C ∷ 0x42 ∷ 0 ∷ 1 ∷ 1 ∷ mask ∷ 1 ∷ 0xF4 ∷ 1 ∷ 1 ∷ 2 ∷ 3 ∷ 4 ∷ 5 ∷ 7 ∷ 0 ∷ []

abbrev script : ℕ → List ℕ → List ℕ
script mask slots = 0 ∷ 17 ∷ (book mask ++ slots)

pub record ScriptFigures : Type 0 where
  -- lines: in the exchange; a unit delivered and one taken; a slot refused; an end refused
  pub exchange : line_of 0 Exchanging (passed_with (byte 0x57) None false Exchanging) ≡ ascii "0 57 - - ----- exchange -\n"
  pub open_end_lem : line_of 500 opened (passed_with (byte 0x0D) (Some 165) true opened) ≡ ascii "500 0D 165 t 01001 open 2/01A2030405/424\n"
  pub refused_slot : line_of 501 opened (Err UnitOutOfRange) ≡ ascii "501 -- - - 01001 open 2/01A2030405/424 by 12\n"
  pub refused_end : line_of 44 (Refused 21 43) (passed_with (byte 0x43) None false (Refused 21 43)) ≡ ascii "44 43 - - ----- refused 21/43\n"
  -- scripts: no slot; two slots; a refused book; bit 7 on and a slot that is cut, each tested before the book
  pub no_slot : script_says (script 3 []) ≡ []
  pub two_slots : script_says (script 3 (0x57 ∷ 0x04 ∷ 0 ∷ 0x57 ∷ 0x24 ∷ 9 ∷ [])) ≡ ascii "0 57 - - ----- exchange -\n1 57 - - ----- exchange -\n"
  pub bad_book : script_says (script 4 (0x57 ∷ 0x04 ∷ 0 ∷ [])) ≡ ascii "book refused by number 5\n"
  pub stray_bit : script_says (script 4 (0x57 ∷ 0x80 ∷ 0 ∷ [])) ≡ ascii "input refused\n"
  pub cut_slot : script_says (script 4 (0x57 ∷ 0x04 ∷ [])) ≡ ascii "input refused\n"
  pub no_input : script_says [] ≡ ascii "input refused\n"

pub script_figures : ScriptFigures
unfolding computing read_book start_of script_says script_fault slots_fault lines_from drive_of book_refused line_of reply_fields outcome_fields sent_field delivered_field taken_field signal_digits signals_field stands_field parameters_of detail_field refusal_note decimal_of hex_of
script_figures =
    record {
      exchange = refl;
      open_end_lem = refl;
      refused_slot = refl;
      refused_end = refl;
      no_slot = refl;
      two_slots = refl;
      bad_book = refl;
      stray_bit = refl;
      cut_slot = refl;
      no_input = refl;
    }
