-- What is promised of each direction of the open pair. Assumes nothing.
use Rattle.std.specs.Prelude.{◌≡◌, true, false, ℕ, ◌+◌, ◌-◌, ◌<◌, length, get_or, Option, Some}
use Rattle.book.specs.declared.Book.{Book}
use Rattle.channel.specs.declared.unit.Form.{Form}
use Rattle.channel.specs.Forms.{units_of}
use Rattle.protocol.specs.Sent.{Sent, Unit}
use Rattle.protocol.specs.Exchange.{entry_of}
use Rattle.protocol.specs.Schedule.{meets, concludes_o, concludes_a}
use Rattle.protocol.specs.Opened.{pair_form, idle_signals, shape_of}
use Rattle.protocol.specs.Slot.{started}
use Rattle.protocol.specs.Call.{sent_at, taken_at, stands_at}
use Rattle.protocol.specs.Pair.{shared_version}
use Rattle.protocol.specs.Carried.{carried_before, delivered_before, lag, shown_after}
use Rattle.protocol.specs.declared.Shape.{Shape}
use Rattle.protocol.specs.declared.Signals.{Signals}
use Rattle.protocol.specs.declared.Outcome.{Outcome}
use Rattle.protocol.specs.declared.Outcome.TheVariants as outcome
use Rattle.protocol.specs.declared.Endpoint.{Endpoint}
use Rattle.protocol.specs.declared.Drive.{Drive}

-- the leads and BK as they stand for an open end; for any other, those of Sdidle
abbrev pub signals_of : Outcome → Signals
signals_of outcome.Exchanging = idle_signals
signals_of (outcome.Open version profile slot signals) = signals
signals_of (outcome.Refused number slot) = idle_signals

-- the all-ones unit of form 7 or 8
pub record AllOnes (f : Form) (u : ℕ) : Type 0 where
  pub form : pair_form f ≡ true
  pub ones : u ≡ units_of f - 1

-- a unit was offered, and is u
pub record Offered (o : Option ℕ) : Type 0 where
  pub unit : ℕ
  pub is : o ≡ Some unit

-- the all-ones fill goes, and is u
pub record Filled (s : Sent) (u : ℕ) : Type 0 where
  pub form : Form
  pub sent : s ≡ Unit form u
  pub ones : AllOnes form u

-- a value carried in some slot, with so many units before it: it was offered and taken in that slot, or it is fill
pub record CameFrom (e : Endpoint) (heard : ℕ → ℕ) (given : ℕ → Drive) (place value : ℕ) : Type 0 where
  pub slot : ℕ
  pub before : length (carried_before e heard given slot) ≡ place
  pub offered : taken_at e heard given slot ≡ true → (given slot).offer ≡ Some value
  pub filled : taken_at e heard given slot ≡ false → Filled (sent_at e heard given slot) value

-- What one end takes, the other delivers. The sender sends as an open end from slot x on.
pub record CarriesOver (d : ℕ) (s : Shape) (x : ℕ) (sender : Endpoint) (hs : ℕ → ℕ) (gs : ℕ → Drive)
    (receiver : Endpoint) (hr : ℕ → ℕ) (gr : ℕ → Drive) : Type 0 where
  -- the units delivered up to a slot are those carried up to that slot less the time to arrive, in order, nothing before and nothing
  -- besides
  pub units : (t : ℕ) → delivered_before receiver hr gr t ≡ carried_before sender hs gs (t - (lag s + d))
  -- a unit taken is one that was offered
  pub taken : (t : ℕ) → taken_at sender hs gs t ≡ true → Offered (gs t).offer
  -- a unit that goes though none was taken is the all-ones fill of forms 7 and 8
  pub between : (t : ℕ) (f : Form) (u : ℕ) → taken_at sender hs gs t ≡ false → sent_at sender hs gs t ≡ Unit f u → AllOnes f u
  -- the leads and BK that the receiver shows before a slot are what the rule gives over the Sd that were sent up to that slot less the time
  -- to arrive: before the first of them has come, those of Sdidle
  pub signals : (t : ℕ) → signals_of (stands_at receiver hr gr t) ≡ (shown_after (λ m. sent_at sender hs gs (x + m)) (t - (x + d))).standing

-- in the shape of the originator's profile on the highest shared version, each direction from the sender's first slot as an open end:
-- O opens by a received byte and sends as an open end in that slot already, A by its own last byte and from the next slot on
pub record BothCarry (d : ℕ) (bo ba : Book) (go ga : ℕ → Drive) (ho ha : ℕ → ℕ) : Type 0 where
  pub from_o : CarriesOver d (shape_of (entry_of bo 0) (shared_version bo ba)) (concludes_o (meets d) d bo ba)
      (started bo) ho go (started ba) ha ga
  pub from_a : CarriesOver d (shape_of (entry_of bo 0) (shared_version bo ba)) (concludes_a (meets d) d bo ba + 1)
      (started ba) ha ga (started bo) ho go

-- The dipstick: whatever an end has delivered up to a slot, each value in its place, the other was offered and took with so many units
-- carried before it, or it is fill.
abbrev pub Dipstick : Endpoint → (ℕ → ℕ) → (ℕ → Drive) → Endpoint → (ℕ → ℕ) → (ℕ → Drive) → Type 0
Dipstick sender hs gs receiver hr gr =
    (t place : ℕ) → place < length (delivered_before receiver hr gr t)
    → CameFrom sender hs gs place (get_or (delivered_before receiver hr gr t) place 0)

-- at either end
pub record Dipsticks (bo ba : Book) (go ga : ℕ → Drive) (ho ha : ℕ → ℕ) : Type 0 where
  pub at_a : Dipstick (started bo) ho go (started ba) ha ga
  pub at_o : Dipstick (started ba) ha ga (started bo) ho go
