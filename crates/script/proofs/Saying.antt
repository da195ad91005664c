-- What a script says, by its parts: a text alone, or the lines of its slots. Assumes nothing.
use mathlib.Core.Path.{◌≡◌, ap, sym, ◌∙◌}
use mathlib.Core.Bool.{Bool, true, false, ◌||◌}
use mathlib.Core.List.{List}
use Prim.Native.Nat.{ℕ, ◌≤◌}
use native.Mathlib.Omega.{arith}
use lib.Dec.{ltb}
use lib.ListN.{length, length-append}
use borrow.Author.Tests.{ltb-false}
use Rattle.std.specs.Prelude.{Err}
use Rattle.book.specs.declared.Refusal.{Refusal}
use Rattle.book.specs.declared.Fault.{Fault}
use Rattle.book.specs.Refusals.{refusal_number, nothing_wrong}
use Rattle.book.specs.Reading.{read_book}
use Rattle.protocol.specs.declared.Start.{Start}
use Rattle.protocol.specs.Slot.{start_of}
use Rattle.text.specs.Text.{room}
use Rattle.text.specs.Ascii.{ascii}
use Rattle.script.specs.Input.{most_bytes, book_in, slots_at, slots_in, slots_fault, script_fault}
use Rattle.script.specs.Output.{lines_from, book_refused, says_from, script_says}
use Rattle.text.proofs.Lengths.{decimal_most}
use Rattle.script.proofs.Slots.{or_left, or_right}

pub refusal_fits : (refusal : Refusal) → length (book_refused refusal) ≤ room
unfolding book_refused
refusal_fits refusal = simp length-append (omega (arith, decimal_most (refusal_number refusal)))

-- a script without fault
module _ (s : List ℕ) (ok : script_fault s ≡ false) where
  pub record Fine : Type 0 where
    pub most : length s ≤ most_bytes
    pub slots : slots_fault (slots_in s) ≡ false

  pub fine : Fine
  unfolding script_fault
  fine =
      let a : Bool = ltb most_bytes (length s) in
      let b : Bool = ltb (length s) 2 in
      let c : Bool = ltb (length s) (slots_at s) in
      let d : Bool = slots_fault (slots_in s) in
      record {
        most = ltb-false most_bytes (length s) (or_left a (b || (c || d)) ok);
        slots = or_right c d (or_right b (c || d) (or_right a (b || (c || d)) ok));
      }

  module _ {book slots : List ℕ} (parts : (book ≡ book_in s) × (slots ≡ slots_in s)) {b : Start} (eb : b ≡ start_of (read_book book)) where
    started : script_says s ≡ says_from slots b.state b.verdict
    unfolding script_says
    started =
        let is : b ≡ start_of (read_book (book_in s)) = eb ∙ ap (λ (xs : List ℕ). start_of (read_book xs)) parts.0 in
        rw ok
        (ap (λ (b : Start). says_from (slots_in s) b.state b.verdict) (sym is)
        ∙ ap (λ (xs : List ℕ). says_from xs b.state b.verdict) (sym parts.1))

    pub refused : {f : Fault} → b.verdict ≡ Err f → script_says s ≡ book_refused f.refusal
    refused bad = started ∙ ap (says_from slots b.state) bad

    pub accepted : b.verdict ≡ nothing_wrong → script_says s ≡ lines_from 0 b.state slots
    accepted fine = started ∙ ap (says_from slots b.state) fine

-- a script at fault
pub at_fault_lem : (s : List ℕ) → script_fault s ≡ true → script_says s ≡ ascii "input refused\n"
unfolding script_says
at_fault_lem s t = rw t
