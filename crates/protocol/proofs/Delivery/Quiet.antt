-- An end in the exchange delivers nothing, takes nothing and sends no unit. Assumes nothing.
use Rattle.std.specs.Prelude.{None}
use mathlib.Core.Path.{◌≡◌, refl}
use mathlib.Core.Bool.{false, ◌&&◌}
use mathlib.Core.List.{List, []}
use Prim.Native.Nat.{ℕ, ◌%◌}
use native.Mathlib.Omega.{arith}
use lib.Dec.{ltb}
use Rattle.ground.proofs.Test.{either_way}
use Rattle.book.specs.declared.Book.{Book}
use Rattle.channel.specs.declared.unit.Form.TheVariants.{Six, SevenV1, SevenV2, Eight}
use Rattle.channel.specs.Kinds.{kind_of}
use Rattle.protocol.specs.Lengths.{parameter_lead, parameter_bytes}
use Rattle.protocol.specs.Sent.{Sent, parameter_sent}
use Rattle.protocol.specs.Exchange.{Turn, sent_as, sends, chosen, acted, fate_heard, turn_by, turn, entry_of}
use Rattle.protocol.specs.Opened.{writing, writes_opening, shape_of, fresh_line}
use Rattle.protocol.specs.Ranges.{well_formed}
use Rattle.protocol.specs.Slot.{Step, exchange_of, step_by, exchange_step, step_at, slot_step, offer_allowed, outcome_at, outcome_of}
use Rattle.protocol.specs.Carried.{fill}
use Rattle.protocol.specs.declared.Shape.{Shape}
use Rattle.protocol.specs.declared.Shape.TheVariants as shape
use Rattle.protocol.specs.declared.Exchange.{Exchange}
use Rattle.protocol.specs.declared.Sending.{Sending}
use Rattle.protocol.specs.declared.Sending.TheVariants.{Idle, Hail, Mask, Parameters, Done}
use Rattle.protocol.specs.declared.Fate.{Fate}
use Rattle.protocol.specs.declared.Fate.TheVariants.{Stays, OpensHearing, OpensSending, Refuses}
use Rattle.protocol.specs.declared.Phase.{Phase}
use Rattle.protocol.specs.declared.Phase.TheVariants.{Exchanging, Open, Refused}
use Rattle.protocol.specs.declared.Outcome.TheVariants as outcome
use Rattle.protocol.specs.declared.Endpoint.{Endpoint}
use Rattle.protocol.specs.declared.Drive.{Drive}

pub record Quiet (s : Step) : Type 0 where
  pub delivers : s.delivered ≡ None
  pub takes : s.taken ≡ false
  pub sends : fill s.sent ≡ []

-- what the exchange sends is no unit
parameter_quiet : (b : Book) (values : List ℕ) (i : ℕ) → fill (parameter_sent b values i) ≡ []
unfolding parameter_sent
parameter_quiet b values i = either_way (λ (s : Sent). fill s ≡ []) (ltb (i % parameter_bytes b) (parameter_lead b)) refl refl

sent_quiet : (b : Book) (y : Exchange) (s : Sending) → fill (sent_as b y s) ≡ []
unfolding sent_as
sent_quiet b y Idle = refl
sent_quiet b y (Hail n) = refl
sent_quiet b y (Mask i) = refl
sent_quiet b y (Parameters i) = parameter_quiet b _ i
sent_quiet b y Done = refl

by_quiet : (b : Book) (y : Exchange) (f : Fate) → fill (turn_by b y f).sent ≡ []
unfolding sends
by_quiet b y Stays = sent_quiet b y (chosen b y)
by_quiet b y (OpensHearing i) = refl
by_quiet b y (OpensSending i) = refl
by_quiet b y (Refuses n) = refl

turn_quiet : (b : Book) (x : Exchange) (heard : ℕ) → fill (turn b x (kind_of heard)).sent ≡ []
unfolding turn
turn_quiet b x heard = by_quiet b (acted b x (kind_of heard)) (fate_heard b x (acted b x (kind_of heard)))

-- the first byte of an open end is an Sd
pub fresh_writes : (s : Shape) (g : Drive) → ((writing s fresh_line.outbound g).taken ≡ false) × (fill (writing s fresh_line.outbound g).sent ≡ [])
unfolding writing writes_opening fresh_line
fresh_writes (shape.Word w) g = (refl, refl)
fresh_writes (shape.Unit Six) g = (refl, refl)
fresh_writes (shape.Unit SevenV1) g = (refl, refl)
fresh_writes (shape.Unit SevenV2) g = (refl, refl)
fresh_writes (shape.Unit Eight) g = (refl, refl)

step_quiet : (b : Book) (slot : ℕ) (t : Turn) (g : Drive) (f : Fate) → fill t.sent ≡ [] → Quiet (step_by b slot t g f)
step_quiet b slot t g Stays e = record { delivers = refl; takes = refl; sends = e }
step_quiet b slot t g (OpensHearing i) e =
    record { delivers = refl; takes = refl; sends = (fresh_writes (shape_of (entry_of b i) t.exchange.version) g).1 }
step_quiet b slot t g (OpensSending i) e = record { delivers = refl; takes = refl; sends = e }
step_quiet b slot t g (Refuses n) e = record { delivers = refl; takes = refl; sends = e }

pub phase_quiet : (e : Endpoint) (heard : ℕ) (g : Drive) (p : Phase) → outcome_at e p ≡ outcome.Exchanging → Quiet (step_at e heard g p)
unfolding step_at exchange_step outcome_at
phase_quiet e heard g (Exchanging slot version a s) q =
    let t = turn e.book (exchange_of e version a s) (kind_of heard) in
    step_quiet e.book slot t g t.fate (turn_quiet e.book (exchange_of e version a s) heard)
phase_quiet e heard g (Open slot version i line) q = let z : ◌≡◌ {A = ℕ} 0 1 = cc in absurd (omega arith)
phase_quiet e heard g (Refused n slot) q = let z : ◌≡◌ {A = ℕ} 0 1 = cc in absurd (omega arith)

pub exchange_quiet : (e : Endpoint) (heard : ℕ) (g : Drive) → outcome_of e ≡ outcome.Exchanging → Quiet (slot_step e heard g)
unfolding slot_step
exchange_quiet e heard g q =
    either_way Quiet (well_formed e && offer_allowed e g e.phase) (phase_quiet e heard g e.phase q) (record { delivers = refl; takes = refl; sends = refl })
