-- The lines of the slots, told one by one. Assumes nothing.
use mathlib.Core.Path.{◌≡◌, refl, ap, sym, ◌∙◌, subst}
use mathlib.Core.List.{List, [], ◌∷◌, ◌++◌}
use Prim.Native.Nat.{ℕ, suc, ◌+◌, ◌/◌, ◌≤◌, min}
use native.Mathlib.Omega.{arith}
use lib.ListN.{length, get_or}
use lib.Seq.{paste}
use Rattle.std.specs.Simd.{first_chunks}
use Rattle.std.proofs.lemmas.List.{nil_from_length}
use Rattle.protocol.specs.declared.Drive.{Drive}
use Rattle.protocol.specs.declared.Endpoint.{Endpoint}
use Rattle.protocol.specs.declared.Outcome.{Outcome}
use Rattle.protocol.specs.declared.SlotAnswer.{SlotAnswer}
use Rattle.protocol.specs.Slot.{slot_of, outcome_of}
use Rattle.text.specs.declared.Text.{Text}
use Rattle.text.specs.Text.{text}
use Rattle.text.specs.Output.{over, put_count}
use Rattle.text.proofs.Filling.{SoFar, begin, go_on, finish_buffer, finish_count}
use Rattle.script.specs.Input.{most_bytes, drive_of}
use Rattle.script.specs.Line.{line_of}
use Rattle.script.specs.Output.{lines_from, line_by}
use Rattle.script.proofs.LineLength.{line_fits}

-- the lines of slots in hand, three bytes each, from a place on
abbrev slot_lines : ℕ → Endpoint → List (List ℕ) → List ℕ
slot_lines place e [] = []
slot_lines place e (slot ∷ slots) =
    let a = slot_of e (get_or slot 0 0) (drive_of (get_or slot 1 0) (get_or slot 2 0)) in line_by place a ++ slot_lines (place + 1) a.state slots

lines_by_slots : (place : ℕ) (e : Endpoint) (xs : List ℕ) → lines_from place e xs ≡ slot_lines place e (first_chunks 3 (length xs / 3) xs)
unfolding lines_from
lines_by_slots place e [] = refl
lines_by_slots place e (x ∷ []) = refl
lines_by_slots place e (x ∷ y ∷ []) = refl
lines_by_slots place e (x ∷ y ∷ z ∷ xs) =
    let one_more : suc (suc (suc (length xs))) / 3 ≡ suc (length xs / 3) = omega arith in
    let a = slot_of e x (drive_of y z) in
    rw one_more (ap (λ (l : List ℕ). line_by place a ++ l) (lines_by_slots (place + 1) a.state xs))

-- before the slots in rest, of which the first is slot number `place`: the end is in the state e, and what was told stands in out before `at`
pub record Telling (slots : List ℕ) (begun : Endpoint) (out₀ out : List ℕ) (e : Endpoint) (place : ℕ) (rest : List (List ℕ)) (at : ℕ) : Type 0 where
  pub counted : place + length rest ≤ most_bytes
  pub told : SoFar (lines_from 0 begun slots) out₀ (slot_lines place e rest) out at

pub start : (slots : List ℕ) (begun : Endpoint) (out : List ℕ) → length slots ≤ most_bytes
    → {rest : List (List ℕ)} → rest ≡ first_chunks 3 (length slots / 3) slots → length rest ≡ length slots / 3
    → Telling slots begun out out begun 0 rest 0
start slots begun out h {rest} e l =
    record {
      counted = omega arith;
      told =
          subst (λ (l : List ℕ). SoFar (lines_from 0 begun slots) out l out 0) (lines_by_slots 0 begun slots ∙ ap (slot_lines 0 begun) (sym e))
          (begin (lines_from 0 begun slots) out);
    }

module _ {slots : List ℕ} {begun : Endpoint} {out₀ out : List ℕ} {e : Endpoint} {place : ℕ} {rest : List (List ℕ)} {at : ℕ}
    (f : Telling slots begun out₀ out e place rest at) where
  pub next : {slot : List ℕ} {more : List (List ℕ)} → rest ≡ slot ∷ more → {g : Drive} → g ≡ drive_of (get_or slot 1 0) (get_or slot 2 0)
      → {a : SlotAnswer} → a ≡ slot_of e (get_or slot 0 0) g → {o : Outcome} → o ≡ outcome_of a.state
      → {t : Text} → t ≡ text (line_of place o a.reply)
      → {r : ℕ} → r ≡ at + put_count t at out
      → {after : List ℕ} → after ≡ paste out at t.bytes (put_count t at out)
      → Telling slots begun out₀ after a.state (place + 1) more r
  next {slot} {more} here eg {a} ea eo et er eb =
      let is : a ≡ slot_of e (get_or slot 0 0) (drive_of (get_or slot 1 0) (get_or slot 2 0)) = ea ∙ ap (slot_of e (get_or slot 0 0)) eg in
      let xs : List ℕ = line_by place a in
      let others : List ℕ = slot_lines (place + 1) a.state more in
      let line : slot_lines place e rest ≡ xs ++ others =
      rw here (ap (λ (a : SlotAnswer). line_by place a ++ slot_lines (place + 1) a.state more) (sym is)) in
      record {
        counted = omega (arith, f.counted, ap length here);
        told =
            go_on xs others (line_fits place (outcome_of a.state) a.reply)
            (subst (λ (l : List ℕ). SoFar (lines_from 0 begun slots) out₀ l out at) line f.told)
            (et ∙ ap (λ (o : Outcome). text (line_of place o a.reply)) eo) er eb;
      }

  module _ (end : length rest ≡ 0) where
    all_told : SoFar (lines_from 0 begun slots) out₀ [] out at
    all_told = subst (λ (l : List (List ℕ)). SoFar (lines_from 0 begun slots) out₀ (slot_lines place e l) out at) (nil_from_length rest end) f.told

    pub finish : (at ≡ min (length (lines_from 0 begun slots)) (length out₀)) × (out ≡ over (lines_from 0 begun slots) out₀)
    finish = (finish_count all_told, finish_buffer all_told)
