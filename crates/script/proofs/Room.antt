-- A buffer that has room for what any script says. Assumes nothing.
use Rattle.std.specs.Prelude.{Ok, Err}
use mathlib.Core.Path.{◌≡◌, refl, ap}
use mathlib.Core.Bool.{Bool, true, false, cond, ◌&&◌}
use mathlib.Core.List.{List, [], ◌∷◌}
use Prim.Native.Nat.{ℕ, ◌+◌, ◌-◌, ◌*◌, ◌≤◌, ◌<◌, min}
use native.Mathlib.Omega.{arith}
use lib.Dec.{eqb, leb}
use lib.ListN.{length, take, length-append, length-drop}
use borrow.Author.Tests.{leb-true}
use Rattle.ground.specs.Digits.{bit}
use Rattle.ground.proofs.Test.{both_left, both_right}
use Rattle.book.specs.declared.Book.{Book}
use Rattle.book.specs.Kept.{book_ok}
use Rattle.book.specs.Refusals.{Verdict, number_of}
use Rattle.book.specs.Reading.{read_book}
use Rattle.book.proofs.RoundTrip.{number_passes}
use Rattle.channel.specs.Bytes.{byte}
use Rattle.protocol.specs.declared.Phase.{Phase}
use Rattle.protocol.specs.declared.Phase.TheVariants.{Exchanging, Open, Refused}
use Rattle.protocol.specs.declared.Endpoint.{Endpoint}
use Rattle.protocol.specs.declared.Drive.{Drive}
use Rattle.protocol.specs.declared.SlotRefusal.TheVariants.{UnitOutOfRange}
use Rattle.protocol.specs.Sent.{byte_sent}
use Rattle.protocol.specs.Exchange.{identifier}
use Rattle.protocol.specs.Ranges.{is_version, phase_in, well_formed}
use Rattle.protocol.specs.Slot.{Step, step_of, offer_allowed, outcome_at, outcome_of, passes, refuses, slot_of, started, start_of, passed_with}
use Rattle.protocol.proofs.Kept.StateKept.{open_parts, started_kept, slot_kept}
use Rattle.text.specs.Numerals.{decimal_of}
use Rattle.text.specs.Output.{over}
use Rattle.script.specs.Input.{book_in, slots_in, script_fault, drive_of}
use Rattle.script.specs.Line.{sent_field, delivered_field, taken_field, refusal_note, reply_fields, signals_field, stands_field, detail_field, outcome_fields}
use Rattle.script.specs.Output.{line_by, lines_from, says_from, says_started, script_says}
use Rattle.text.proofs.Lengths.{decimal_most, one_digit, parameters_length}
use Rattle.text.proofs.Filling.{written_whole}
use Rattle.script.proofs.LineLength.{signals_length, passed_most, outcome_most, line_length}
use Rattle.script.proofs.Saying.{refusal_fits, fine}

-- an end that is well formed has a version of one digit
module _ (e : Endpoint) where
  outcome_short : (p : Phase) → phase_in e.book e.nibbles e.values p ≡ true → length (outcome_fields (outcome_at e p)) ≤ 29
  unfolding outcome_at is_version outcome_fields signals_field stands_field detail_field
  outcome_short (Exchanging slot version a s) ok = omega arith
  outcome_short (Open slot version i line) ok =
      let b = e.book in
      let shared = (open_parts b slot version i line e.nibbles e.values ok).0.opens.shared in
      let low : leb version 8 ≡ true =
      both_right (leb 1 version) (leb version 8)
      (both_left (leb 1 version && leb version 8) (eqb (bit (version - 1) (identifier b)) 1) shared) in
      let small : version < 10 = omega (arith, leb-true version 8 low) in
      simp (length-append, signals_length, parameters_length, one_digit version small) (omega (arith, decimal_most slot))
  outcome_short (Refused number slot) ok =
      simp length-append (omega (arith, decimal_most number, decimal_most slot))

passed_line : (place : ℕ) (s : Step) → length (line_by place (passes s)) ≤ 51
unfolding refusal_note
passed_line place s =
    let o = outcome_of s.state in
    let sent = byte (byte_sent s.sent) in
    rw (line_length place o (passed_with sent s.delivered s.taken o))
    (omega (arith, decimal_most place, passed_most sent s.delivered s.taken o, outcome_most o))

refused_line_lem : (place : ℕ) (e : Endpoint) → well_formed e ≡ true → length (line_by place (refuses e UnitOutOfRange)) ≤ 51
unfolding well_formed reply_fields sent_field delivered_field taken_field refusal_note decimal_of
refused_line_lem place e ok =
    rw (line_length place (outcome_of e) (Err UnitOutOfRange))
    (omega (arith, decimal_most place, outcome_short e e.phase (both_right (book_ok e.book) (phase_in e.book e.nibbles e.values e.phase) ok)))

-- no line of a slot is longer than 51 characters
pub slot_line : (place : ℕ) (e : Endpoint) (heard : ℕ) (g : Drive) → well_formed e ≡ true
    → length (line_by place (slot_of e heard g)) ≤ 51
unfolding slot_of
slot_line place e heard g ok = rw ok (by (offer_allowed e g e.phase))
  where
    by : (allowed : Bool) → length (line_by place (cond allowed (passes (step_of e heard g)) (refuses e UnitOutOfRange))) ≤ 51
    by true = passed_line place (step_of e heard g)
    by false = refused_line_lem place e ok

-- so that three bytes bring 17 characters each
lines_room : (place : ℕ) (e : Endpoint) (xs : List ℕ) → well_formed e ≡ true → length (lines_from place e xs) ≤ 17 * length xs
unfolding lines_from
lines_room place e [] ok = omega arith
lines_room place e (heard ∷ []) ok = omega arith
lines_room place e (heard ∷ flags ∷ []) ok = omega arith
lines_room place e (heard ∷ flags ∷ unit ∷ rest) ok =
    let g = drive_of flags unit in
    let a = slot_of e heard g in
    simp length-append
    (omega (arith, slot_line place e heard g ok, lines_room (place + 1) a.state rest (slot_kept e heard g ok)))

started_room : (slots bytes : List ℕ) → length slots ≤ 65535 → length (says_started slots (start_of (read_book bytes))) ≤ 17 * 65536
unfolding start_of
started_room slots bytes h = by (read_book bytes).verdict refl
  where
    b : Book
    b = (read_book bytes).book

    by : (v : Verdict) → (read_book bytes).verdict ≡ v → length (says_from slots (started b) v) ≤ 17 * 65536
    by (Ok _) e = omega (arith, lines_room 0 (started b) slots (started_kept b (number_passes bytes (ap number_of e))))
    by (Err f) e = omega (arith, refusal_fits f.refusal)

-- 1,114,112 bytes are room for what any script says
pub any_script_fits : (s : List ℕ) → length (script_says s) ≤ 17 * 65536
unfolding script_says
any_script_fits s = by (script_fault s) refl
  where
    by : (f : Bool) → script_fault s ≡ f → length (script_says s) ≤ 17 * 65536
    by true e = rw e (omega arith)
    by false e =
        let slots : length (slots_in s) ≤ 65535 = simp length-drop (omega (arith, (fine s e).most)) in
        rw e (started_room (slots_in s) (book_in s) slots)

-- so that the part of such a buffer that was written is all that the script says
pub all_said : (s out : List ℕ) → 17 * 65536 ≤ length out → {r : ℕ} → r ≡ min (length (script_says s)) (length out)
    → {after : List ℕ} → after ≡ over (script_says s) out → take r after ≡ script_says s
all_said s out room er ea = written_whole (script_says s) out er ea (omega (arith, any_script_fits s))
