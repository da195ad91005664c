-- Units that don't start together: one end starts e slots after the other, until then sending 7F and hearing nothing. Slots count from the
-- earlier start. Assumes nothing.
use Rattle.std.specs.Prelude.{◌≡◌, true, false, cond, [], ℕ, ◌+◌, ◌-◌, ◌≤◌, max, ltb}
use Rattle.book.specs.declared.Entry.{Entry}
use Rattle.book.specs.declared.Book.{Book}
use Rattle.channel.specs.Bytes.{sgidle}
use Rattle.channel.specs.declared.unit.Form.{Form}
use Rattle.protocol.specs.Sent.{Sent, Alone, Unit}
use Rattle.protocol.specs.Exchange.{entry_of}
use Rattle.protocol.specs.Schedule.{concludes_o, concludes_a, enough}
use Rattle.protocol.specs.Opened.{shape_of}
use Rattle.protocol.specs.Slot.{started}
use Rattle.protocol.specs.Call.{sent_at, taken_at, stands_at, Allowed}
use Rattle.protocol.specs.Damage.{Arrives}
use Rattle.protocol.specs.Pair.{MayJoin, OpenSince, Concludes, shared_version}
use Rattle.protocol.specs.Carried.{carried_before, delivered_before, lag, shown_after}
use Rattle.protocol.specs.Delivery.{signals_of, AllOnes, Offered, Dipsticks}
use Rattle.protocol.specs.declared.Shape.{Shape}
use Rattle.protocol.specs.declared.Endpoint.{Endpoint}
use Rattle.protocol.specs.declared.Drive.{Drive}
use Rattle.protocol.specs.declared.Outcome.{Outcome}
use Rattle.protocol.specs.declared.Outcome.TheVariants.{Exchanging, Refused}

-- which end starts later
pub data Later : Type 0 where
  OriginatorLater : Later
  AnswererLater : Later

-- the slot in which each end starts
abbrev pub starts_o : Later → ℕ → ℕ
starts_o OriginatorLater e = e
starts_o AnswererLater e = 0

abbrev pub starts_a : Later → ℕ → ℕ
starts_a OriginatorLater e = 0
starts_a AnswererLater e = e

-- what an end that starts in slot s has, in its own slots, of what arrives and of what it is given: what came before its start is lost
abbrev pub since : {A : Type 0} → ℕ → (ℕ → A) → ℕ → A
since s common t = common (s + t)

-- and by the common slots: until its start one thing, from then on what its call has
abbrev pub starting : {A : Type 0} → ℕ → A → (ℕ → A) → ℕ → A
starting s until own t = cond (ltb t s) until (own (t - s))

-- it sends 7F until its start, and has concluded nothing
abbrev pub sent_from : ℕ → Endpoint → (ℕ → ℕ) → (ℕ → Drive) → ℕ → Sent
sent_from s end heard given = starting s (Alone sgidle) (sent_at end (since s heard) (since s given))

abbrev pub stands_from : ℕ → Endpoint → (ℕ → ℕ) → (ℕ → Drive) → ℕ → Outcome
stands_from s end heard given = starting s Exchanging (stands_at end (since s heard) (since s given))

-- two ends of which one starts e slots after the other: what each is given and what arrives at it, by the common slots
pub record JoinedLate (d e : ℕ) (later : Later) (bo ba : Book) (go ga : ℕ → Drive) (ho ha : ℕ → ℕ) : Type 0 where
  pub books : MayJoin d bo ba
  -- limits that are enough: at least e+5d+420
  pub limit_o : e + enough d bo ba ≤ bo.limit
  pub limit_a : e + enough d bo ba ≤ ba.limit
  -- neither end is given an offer that 12 refuses
  pub allowed_o : Allowed (started bo) (since (starts_o later e) ho) (since (starts_o later e) go)
  pub allowed_a : Allowed (started ba) (since (starts_a later e) ha) (since (starts_a later e) ga)
  -- what arrives at each end is what the other sent d slots before, within the allowed damage
  pub to_o : Arrives d (sent_from (starts_a later e) (started ba) ha ga) ho
  pub to_a : Arrives d (sent_from (starts_o later e) (started bo) ho go) ha

-- the slot in which a waiting O first hears A's unbroken Sgvi. With O late they arrive from slot d on, and O hears them once it has started;
-- with A late they arrive d slots after its start
abbrev pub meets_late : Later → ℕ → ℕ → ℕ
meets_late OriginatorLater d e = max d e
meets_late AnswererLater d e = d + e

-- both ends open, each in its slot, and stay open; the slot that an end reports is counted from its own start
pub record BothOpenLate (start_o start_a slot_o slot_a version : ℕ) (profile : Entry) (stands_o stands_a : ℕ → Outcome) : Type 0 where
  pub o : Concludes slot_o (OpenSince (slot_o - start_o) version profile) stands_o
  pub a : Concludes slot_a (OpenSince (slot_a - start_a) version profile) stands_a

-- neither opens, ever: both refuse under one number, each in its slot
pub record BothRefuseLate (number start_o start_a slot_o slot_a : ℕ) (stands_o stands_a : ℕ → Outcome) : Type 0 where
  pub o : Concludes slot_o (λ stands. stands ≡ Refused number (slot_o - start_o)) stands_o
  pub a : Concludes slot_a (λ stands. stands ≡ Refused number (slot_a - start_a)) stands_a

-- What one end takes, the other delivers, by the common slots. The sender starts in slot s and sends as an open end from slot x on, the
-- receiver starts in slot r.
pub record CarriesLate (d : ℕ) (f : Shape) (x s : ℕ) (sender : Endpoint) (hs : ℕ → ℕ) (gs : ℕ → Drive)
    (r : ℕ) (receiver : Endpoint) (hr : ℕ → ℕ) (gr : ℕ → Drive) : Type 0 where
  -- the units delivered up to a slot are those carried up to that slot less the time to arrive, in order, nothing before and nothing
  -- besides; until its start an end has delivered and carried nothing
  pub units : (t : ℕ) → starting r [] (delivered_before receiver (since r hr) (since r gr)) t
      ≡ starting s [] (carried_before sender (since s hs) (since s gs)) (t - (lag f + d))
  -- a unit taken is one that was offered: in slot t of the sender's call, which is slot s + t
  pub taken : (t : ℕ) → taken_at sender (since s hs) (since s gs) t ≡ true → Offered (gs (s + t)).offer
  -- a unit that goes though none was taken is the all-ones fill of forms 7 and 8
  pub between : (t : ℕ) (form : Form) (u : ℕ) → taken_at sender (since s hs) (since s gs) t ≡ false
      → sent_at sender (since s hs) (since s gs) t ≡ Unit form u → AllOnes form u
  -- the leads and BK that the receiver shows before a slot are what the rule gives over the Sd that were sent up to that slot less the time
  -- to arrive: before the first of them has come, those of Sdidle
  pub signals : (t : ℕ) → signals_of (stands_from r receiver hr gr t) ≡ (shown_after (λ m. sent_from s sender hs gs (x + m)) (t - (x + d))).standing

-- in the shape of the originator's profile on the highest shared version, each direction from the sender's first slot as an open end
pub record BothCarryLate (d e : ℕ) (later : Later) (bo ba : Book) (go ga : ℕ → Drive) (ho ha : ℕ → ℕ) : Type 0 where
  pub from_o : CarriesLate d (shape_of (entry_of bo 0) (shared_version bo ba)) (concludes_o (meets_late later d e) d bo ba)
      (starts_o later e) (started bo) ho go (starts_a later e) (started ba) ha ga
  pub from_a : CarriesLate d (shape_of (entry_of bo 0) (shared_version bo ba)) (concludes_a (meets_late later d e) d bo ba + 1)
      (starts_a later e) (started ba) ha ga (starts_o later e) (started bo) ho go

-- the dipstick at either end, each end in its own slots
abbrev pub DipsticksLate : ℕ → Later → Book → Book → (ℕ → Drive) → (ℕ → Drive) → (ℕ → ℕ) → (ℕ → ℕ) → Type 0
DipsticksLate e later bo ba go ga ho ha =
    Dipsticks bo ba (since (starts_o later e) go) (since (starts_a later e) ga) (since (starts_o later e) ho) (since (starts_a later e) ha)
