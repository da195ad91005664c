-- An open end in a call, slot by slot: its sending half goes by what it is given, its receiving half by what it hears. Assumes nothing.
use Rattle.std.specs.Prelude.{Some}
use mathlib.Core.Path.{◌≡◌, sym, ap, ◌∙◌}
use mathlib.Core.Bool.{true}
use mathlib.Core.List.{List}
use Prim.Native.Nat.{ℕ, zero, suc, ◌+◌}
use native.Mathlib.Nat.{add-zero, add-suc}
use Rattle.book.specs.declared.Book.{Book}
use Rattle.protocol.specs.Exchange.{entry_of}
use Rattle.protocol.specs.Opened.{shape_of, has_unit, reading, writing}
use Rattle.protocol.specs.Ranges.{well_formed}
use Rattle.protocol.specs.Slot.{Step, open_step, step_at, step_of, offer_allowed, slot_step}
use Rattle.protocol.specs.Call.{end_at, sent_at, delivered_at, taken_at, Allowed}
use Rattle.protocol.specs.declared.Shape.{Shape}
use Rattle.protocol.specs.declared.Outbound.{Outbound}
use Rattle.protocol.specs.declared.Inbound.{Inbound}
use Rattle.protocol.specs.declared.Line.{Line}
use Rattle.protocol.specs.declared.Phase.TheVariants.{Open}
use Rattle.protocol.specs.declared.Endpoint.{Endpoint}
use Rattle.protocol.specs.declared.Drive.{Drive}
use Rattle.protocol.specs.declared.SlotAnswer.{SlotAnswer}
use Rattle.protocol.proofs.Calls.SlotPasses.{slot_passes, step_passes}

-- the sending half after n slots of what is given, the receiving half after n bytes
unfoldable pub outs : Shape → (ℕ → Drive) → Outbound → ℕ → Outbound
outs s given o zero = o
outs s given o (suc n) = (writing s (outs s given o n) (given n)).outbound

unfoldable pub ins : Shape → (ℕ → ℕ) → Inbound → ℕ → Inbound
ins s heard i zero = i
ins s heard i (suc n) = (reading s (ins s heard i n) (heard n)).inbound

module _ (e : Endpoint) (heard : ℕ → ℕ) (given : ℕ → Drive) (kept : (t : ℕ) → well_formed (end_at e heard given t) ≡ true) (allowed : Allowed e heard given)
    (x slot version i : ℕ) (b : Book) (nibbles values : List ℕ) (line : Line)
    (start : end_at e heard given x ≡ record { book = b; nibbles = nibbles; values = values; phase = Open slot version i line }) where
  abbrev pub laid : Shape
  laid = shape_of (entry_of b i) version

  abbrev pub out : ℕ → Outbound
  out n = outs laid (λ m. given (x + m)) line.outbound n

  abbrev pub inn : ℕ → Inbound
  inn n = ins laid (λ m. heard (x + m)) line.inbound n

  abbrev pub opened : ℕ → Endpoint
  opened n =
      record { book = b; nibbles = nibbles; values = values; phase = Open slot version i (record { outbound = out n; inbound = inn n }) }

  one_slot : (n : ℕ) → end_at e heard given (x + n) ≡ opened n → end_at e heard given (suc (x + n)) ≡ opened (suc n)
  unfolding end_at step_at open_step outs ins
  one_slot n q =
      ap (λ (a : SlotAnswer). a.state) (slot_passes (end_at e heard given (x + n)) (heard (x + n)) (given (x + n)) (kept (x + n)) (allowed (x + n)))
      ∙ ap (λ u. (step_of u (heard (x + n)) (given (x + n))).state) q

  pub open_run : (n : ℕ) → end_at e heard given (x + n) ≡ opened n
  unfolding outs ins
  open_run zero = rw add-zero start
  open_run (suc n) = rw add-suc (one_slot n (open_run n))

  -- what a slot brings
  run_step : (n : ℕ) → slot_step (end_at e heard given (x + n)) (heard (x + n)) (given (x + n))
      ≡ open_step (opened n) slot version i (record { outbound = out n; inbound = inn n }) (heard (x + n)) (given (x + n))
  unfolding step_at
  run_step n =
      step_passes (end_at e heard given (x + n)) (heard (x + n)) (given (x + n)) (kept (x + n)) (allowed (x + n))
      ∙ ap (λ u. step_of u (heard (x + n)) (given (x + n))) (open_run n)

  pub run_sends : (n : ℕ) → sent_at e heard given (x + n) ≡ (writing laid (out n) (given (x + n))).sent
  unfolding open_step
  run_sends n = ap (λ (s : Step). s.sent) (run_step n)

  pub run_takes : (n : ℕ) → taken_at e heard given (x + n) ≡ (writing laid (out n) (given (x + n))).taken
  unfolding open_step
  run_takes n = ap (λ (s : Step). s.taken) (run_step n)

  pub run_delivers : (n : ℕ) → delivered_at e heard given (x + n) ≡ (reading laid (inn n) (heard (x + n))).delivered
  unfolding open_step
  run_delivers n = ap (λ (s : Step). s.delivered) (run_step n)

  -- an offer that is allowed has a unit of the form
  pub run_allowed : (n u : ℕ) → (given (x + n)).offer ≡ Some u → has_unit laid u ≡ true
  unfolding offer_allowed
  run_allowed n u q =
      sym (ap (λ (o : _). Rattle.protocol.specs.Slot.offer_fits (opened n) version i o) q)
      ∙ sym (ap (λ (z : Endpoint). offer_allowed z (given (x + n)) z.phase) (open_run n))
      ∙ allowed (x + n)
