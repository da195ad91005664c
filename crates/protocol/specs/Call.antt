-- A call: a start, and then slot after slot what is received and given. Assumes nothing.
use Rattle.std.specs.Prelude.{◌≡◌, Bool, true, ℕ, zero, suc, ◌<◌, Option, Some, None}
use Rattle.book.specs.declared.Book.{Book}
use Rattle.protocol.specs.Sent.{Sent}
use Rattle.protocol.specs.Exchange.{entry_of}
use Rattle.protocol.specs.Opened.{shape_of, has_unit}
use Rattle.protocol.specs.Slot.{slot_of, slot_step, offer_allowed, outcome_of}
use Rattle.protocol.specs.declared.Endpoint.{Endpoint}
use Rattle.protocol.specs.declared.Drive.{Drive}
use Rattle.protocol.specs.declared.Outcome.{Outcome}

-- the end before slot t, from the byte received and what is given in each slot before it
unfoldable pub end_at : Endpoint → (ℕ → ℕ) → (ℕ → Drive) → ℕ → Endpoint
end_at e heard given zero = e
end_at e heard given (suc t) = (slot_of (end_at e heard given t) (heard t) (given t)).state

-- what slot t sends, delivers and takes: nothing where it is refused
abbrev pub sent_at : Endpoint → (ℕ → ℕ) → (ℕ → Drive) → ℕ → Sent
sent_at e heard given t = (slot_step (end_at e heard given t) (heard t) (given t)).sent

abbrev pub delivered_at : Endpoint → (ℕ → ℕ) → (ℕ → Drive) → ℕ → Option ℕ
delivered_at e heard given t = (slot_step (end_at e heard given t) (heard t) (given t)).delivered

abbrev pub taken_at : Endpoint → (ℕ → ℕ) → (ℕ → Drive) → ℕ → Bool
taken_at e heard given t = (slot_step (end_at e heard given t) (heard t) (given t)).taken

-- where the end stands before slot t
abbrev pub stands_at : Endpoint → (ℕ → ℕ) → (ℕ → Drive) → ℕ → Outcome
stands_at e heard given t = outcome_of (end_at e heard given t)

-- no slot is refused under 12
abbrev pub Allowed : Endpoint → (ℕ → ℕ) → (ℕ → Drive) → Type 0
Allowed e heard given = (t : ℕ) → offer_allowed (end_at e heard given t) (given t) (end_at e heard given t).phase ≡ true

-- nothing is offered, ever
abbrev pub OffersNothing : (ℕ → Drive) → Type 0
OffersNothing given = (t : ℕ) → (given t).offer ≡ None

-- each unit offered is in the range of every entry of the book, on every version
abbrev pub OffersFit : Book → (ℕ → Drive) → Type 0
OffersFit b given =
    (t u : ℕ) → (given t).offer ≡ Some u → (i version : ℕ) → i < b.n → has_unit (shape_of (entry_of b i) version) u ≡ true
