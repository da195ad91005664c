-- Any stored state in any slot, and any call from an accepted book. Assumes nothing.
use Rattle.std.specs.Prelude.{◌≡◌, true, false, ◌⊎◌, ℕ, suc, ◌≤◌, None, Err}
use Rattle.book.specs.declared.Entry.{Entry}
use Rattle.book.specs.declared.Book.{Book}
use Rattle.channel.specs.Bytes.{byte, sdidle}
use Rattle.protocol.specs.Sent.{Silence, Alone, byte_sent}
use Rattle.protocol.specs.Ranges.{well_formed}
use Rattle.protocol.specs.Slot.{started, step_of, offer_allowed, passes, refuses, refusal_number, slot_of, passed_with}
use Rattle.protocol.specs.Call.{end_at, sent_at, delivered_at, taken_at, stands_at}
use Rattle.protocol.specs.Concluding.{LeavesIn, StaysOpen}
use Rattle.protocol.specs.Votes.{Votes}
use Rattle.protocol.specs.declared.Line.{Line}
use Rattle.protocol.specs.declared.Phase.TheVariants as phase
use Rattle.protocol.specs.declared.Endpoint.{Endpoint}
use Rattle.protocol.specs.declared.Drive.{Drive}
use Rattle.protocol.specs.declared.Signals.{Signals}
use Rattle.protocol.specs.declared.Outcome.TheVariants.{Open, Refused}
use Rattle.protocol.specs.declared.SlotRefusal.TheVariants.{UnitOutOfRange, OutsideRanges}

-- any stored state, received byte and drive has a defined reply; what is refused gives back the state as it came
pub record AnswersAll (e : Endpoint) (heard : ℕ) (g : Drive) : Type 0 where
  pub bad_state : well_formed e ≡ false → slot_of e heard g ≡ refuses e OutsideRanges
  pub bad_offer : well_formed e ≡ true → offer_allowed e g e.phase ≡ false → slot_of e heard g ≡ refuses e UnitOutOfRange
  -- the numbers of these two refusals
  pub thirteen : refusal_number OutsideRanges ≡ 13
  pub twelve : refusal_number UnitOutOfRange ≡ 12
  pub otherwise : well_formed e ≡ true → offer_allowed e g e.phase ≡ true → slot_of e heard g ≡ passes (step_of e heard g)
  -- and a state that is in its ranges stays so
  pub kept : well_formed e ≡ true → well_formed (slot_of e heard g).state ≡ true

-- a slot of a call that 12 refuses
pub record NotPassed (e : Endpoint) (heard : ℕ → ℕ) (given : ℕ → Drive) (t : ℕ) : Type 0 where
  pub reply : (slot_of (end_at e heard given t) (heard t) (given t)).reply ≡ Err UnitOutOfRange
  pub number : refusal_number UnitOutOfRange ≡ 12
  pub sent : sent_at e heard given t ≡ Silence
  pub delivered : delivered_at e heard given t ≡ None
  pub taken : taken_at e heard given t ≡ false
  pub after : end_at e heard given (suc t) ≡ end_at e heard given t

-- in one slot two calls send, deliver and take the same, and their ends after it are the same
pub record SameSlot (e : Endpoint) (heard heard' : ℕ → ℕ) (given given' : ℕ → Drive) (t : ℕ) : Type 0 where
  pub sent : sent_at e heard given t ≡ sent_at e heard' given' t
  pub delivered : delivered_at e heard given t ≡ delivered_at e heard' given' t
  pub taken : taken_at e heard given t ≡ taken_at e heard' given' t
  pub after : end_at e heard given (suc t) ≡ end_at e heard' given' (suc t)

-- an end that has concluded before slot t, in a later slot u: only an open end's line changes, and a refused end sends Sdidle and ignores
-- what comes
pub record StaysConcluded (e : Endpoint) (heard : ℕ → ℕ) (given : ℕ → Drive) (t u : ℕ) : Type 0 where
  pub opened : (slot version entry : ℕ) (line : Line) → (end_at e heard given t).phase ≡ phase.Open slot version entry line
      → StaysOpen (end_at e heard given t) slot version entry (end_at e heard given u)
  pub refused : (number slot : ℕ) → (end_at e heard given t).phase ≡ phase.Refused number slot → end_at e heard given u ≡ end_at e heard given t
  pub idles : (number slot : ℕ) → (end_at e heard given t).phase ≡ phase.Refused number slot → sent_at e heard given u ≡ Alone sdidle
  pub ignores : (number slot : ℕ) → (end_at e heard given t).phase ≡ phase.Refused number slot
      → (delivered_at e heard given u ≡ None) × (taken_at e heard given u ≡ false)

-- a call from an accepted book, whatever it hears and is given
pub record CallHolds (b : Book) (heard : ℕ → ℕ) (given : ℕ → Drive) : Type 0 where
  pub kept : (t : ℕ) → well_formed (end_at (started b) heard given t) ≡ true
  -- a slot passes unless 12 refuses its offer, and its reply is what the slot sends, delivers and takes and where the end then stands
  pub replies : (t : ℕ) → offer_allowed (end_at (started b) heard given t) (given t) (end_at (started b) heard given t).phase ≡ true
      → (slot_of (end_at (started b) heard given t) (heard t) (given t)).reply
      ≡ passed_with (byte (byte_sent (sent_at (started b) heard given t))) (delivered_at (started b) heard given t)
      (taken_at (started b) heard given t) (stands_at (started b) heard given (suc t))
  -- one that 12 refuses has not passed: nothing is sent, delivered or taken in it, and the end is as it was
  pub not_passed : (t : ℕ) → offer_allowed (end_at (started b) heard given t) (given t) (end_at (started b) heard given t).phase ≡ false
      → NotPassed (started b) heard given t
  -- the slot of opening and of refusing is the count of slots since the start
  pub opened_in : (t version slot : ℕ) (profile : Entry) (signals : Signals)
      → stands_at (started b) heard given t ≡ Open version profile slot signals
      → LeavesIn (started b) heard given slot
  pub refused_in : (t number slot : ℕ) → stands_at (started b) heard given t ≡ Refused number slot → LeavesIn (started b) heard given slot
  -- form 8 is of version 2: an end that stands open on it is on that version
  pub eights : (t version slot : ℕ) (profile : Entry) (signals : Signals)
      → stands_at (started b) heard given t ≡ Open version profile slot signals
      → profile.form ≡ 8
      → version ≡ 2
  -- what has concluded stays so
  pub concluded : (t u : ℕ) → t ≤ u → StaysConcluded (started b) heard given t u
  -- a value that is voted is the majority of six bytes that came one after the other: no copy of a dropped group counts
  pub voted : (u : ℕ)
      → ((end_at (started b) heard given (suc u)).values ≡ (end_at (started b) heard given u).values)
      ⊎ ((item : ℕ) × Votes (started b) heard given u item)
  -- what a slot of the call does depends on its book and on what the call has heard and been given up to that slot, and on nothing else
  pub determined : (heard' : ℕ → ℕ) (given' : ℕ → Drive) (t : ℕ)
      → ((i : ℕ) → i ≤ t → heard i ≡ heard' i) → ((i : ℕ) → i ≤ t → given i ≡ given' i)
      → SameSlot (started b) heard heard' given given' t
