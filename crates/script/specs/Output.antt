-- What a script says. Assumes nothing.
use Rattle.std.specs.Prelude.{cond, List, [], ◌∷◌, ◌++◌, ℕ, ◌+◌, Ok, Err}
use Rattle.book.specs.declared.Refusal.{Refusal}
use Rattle.book.specs.Refusals.{refusal_number, Verdict}
use Rattle.book.specs.Reading.{read_book}
use Rattle.protocol.specs.declared.Endpoint.{Endpoint}
use Rattle.protocol.specs.declared.SlotAnswer.{SlotAnswer}
use Rattle.protocol.specs.declared.Start.{Start}
use Rattle.protocol.specs.Slot.{start_of, slot_of, outcome_of}
use Rattle.text.specs.Ascii.{ascii}
use Rattle.text.specs.Numerals.{decimal_of}
use Rattle.script.specs.Input.{book_in, slots_in, script_fault, drive_of}
use Rattle.script.specs.Line.{line_of}

-- the line of the slot at a place, by its answer
abbrev pub line_by : ℕ → SlotAnswer → List ℕ
line_by place a = line_of place (outcome_of a.state) a.reply

-- the lines of the slots from a place on, the end being in this state; the last slot is whole
unfoldable pub lines_from : ℕ → Endpoint → List ℕ → List ℕ
lines_from place e [] = []
lines_from place e (heard ∷ []) = []
lines_from place e (heard ∷ flags ∷ []) = []
lines_from place e (heard ∷ flags ∷ unit ∷ rest) =
    let a = slot_of e heard (drive_of flags unit) in line_by place a ++ lines_from (place + 1) a.state rest

unfoldable pub book_refused : Refusal → List ℕ
book_refused refusal = ascii "book refused by number " ++ decimal_of (refusal_number refusal) ++ ascii "\n"

-- by the book's verdict
abbrev pub says_from : List ℕ → Endpoint → Verdict → List ℕ
says_from slots e (Ok _) = lines_from 0 e slots
says_from slots e (Err f) = book_refused f.refusal

abbrev pub says_started : List ℕ → Start → List ℕ
says_started slots b = says_from slots b.state b.verdict

-- the input is tested before the book is read
unfoldable pub script_says : List ℕ → List ℕ
script_says s =
    cond (script_fault s) (ascii "input refused\n")
    (says_started (slots_in s) (start_of (read_book (book_in s))))
