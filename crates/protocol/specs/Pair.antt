-- Two ends joined by a channel that delays each way by d slots and keeps order, started together. Assumes nothing.
use Rattle.std.specs.Prelude.{◌≡◌, true, ℕ, ◌≤◌, ◌<◌, get_or}
use Rattle.book.specs.declared.Entry.{Entry}
use Rattle.book.specs.declared.Book.{Book}
use Rattle.book.specs.Book.{originating, answering, params_of, same_params}
use Rattle.book.specs.Kept.{book_ok}
use Rattle.channel.specs.Versions.{highest}
use Rattle.protocol.specs.Exchange.{entry_of, identifier}
use Rattle.protocol.specs.Schedule.{enough}
use Rattle.protocol.specs.Slot.{started}
use Rattle.protocol.specs.Call.{sent_at, Allowed}
use Rattle.protocol.specs.Damage.{Arrives}
use Rattle.protocol.specs.declared.Drive.{Drive}
use Rattle.protocol.specs.declared.Signals.{Signals}
use Rattle.protocol.specs.declared.Outcome.{Outcome}
use Rattle.protocol.specs.declared.Outcome.TheVariants.{Exchanging, Open, Refused}

-- the parameters are bytes, as in every book that is read or stored
abbrev pub OfBytes : Book → Type 0
OfBytes b = (i k : ℕ) → get_or (params_of (entry_of b i)) k 0 < 256

-- the originator's book and the answerer's may be joined over a delay of d slots
pub record MayJoin (d : ℕ) (bo ba : Book) : Type 0 where
  pub delay : 1 ≤ d
  -- two accepted books of the right roles
  pub book_o : book_ok bo ≡ true
  pub book_a : book_ok ba ≡ true
  pub bytes_o : OfBytes bo
  pub bytes_a : OfBytes ba
  pub role_o : bo.role ≡ originating
  pub role_a : ba.role ≡ answering
  -- limits that are enough: at least 5d+420
  pub limit_o : enough d bo ba ≤ bo.limit
  pub limit_a : enough d bo ba ≤ ba.limit
  -- equal parameters have equal form and word length in both books
  pub forms : (i : ℕ) → i < ba.n → same_params (entry_of ba i) (entry_of bo 0) ≡ true
      → ((entry_of ba i).form ≡ (entry_of bo 0).form) × ((entry_of ba i).w ≡ (entry_of bo 0).w)

-- two such books, what each end is given besides what it hears, and what each hears
pub record JoinedPair (d : ℕ) (bo ba : Book) (go ga : ℕ → Drive) (ho ha : ℕ → ℕ) : Type 0 where
  pub books : MayJoin d bo ba
  -- neither end is given an offer that 12 refuses
  pub allowed_o : Allowed (started bo) ho go
  pub allowed_a : Allowed (started ba) ha ga
  -- what each end hears is what the other sent d slots before, within the allowed damage
  pub to_o : Arrives d (sent_at (started ba) ha ga) ho
  pub to_a : Arrives d (sent_at (started bo) ho go) ha

-- the highest version that both share by their identifiers, 0 for none
abbrev pub shared_version : Book → Book → ℕ
shared_version bo ba = highest (identifier bo) (identifier ba)

-- the originator's profile is in the answerer's book
pub record ProfileIn (bo ba : Book) : Type 0 where
  pub entry : ℕ
  pub below : entry < ba.n
  pub same : same_params (entry_of ba entry) (entry_of bo 0) ≡ true

-- an end stands open on a version and a profile since a slot, whatever leads and BK stand
pub record OpenSince (slot version : ℕ) (profile : Entry) (stands : Outcome) : Type 0 where
  pub signals : Signals
  pub is : stands ≡ Open version profile slot signals

-- an end is in the exchange up to and with slot s, and from then on stands as it concluded in that slot
pub record Concludes (slot : ℕ) (How : Outcome → Type 0) (stands : ℕ → Outcome) : Type 0 where
  pub before : (t : ℕ) → t ≤ slot → stands t ≡ Exchanging
  pub after : (t : ℕ) → slot < t → How (stands t)

-- both ends open, each in its slot, on one version and on the originator's profile, and stay open
pub record BothOpen (slot_o slot_a version : ℕ) (profile : Entry) (stands_o stands_a : ℕ → Outcome) : Type 0 where
  pub o : Concludes slot_o (OpenSince slot_o version profile) stands_o
  pub a : Concludes slot_a (OpenSince slot_a version profile) stands_a

-- neither opens, ever: both refuse under one number, each in its slot
pub record BothRefuse (number slot_o slot_a : ℕ) (stands_o stands_a : ℕ → Outcome) : Type 0 where
  pub o : Concludes slot_o (λ stands. stands ≡ Refused number slot_o) stands_o
  pub a : Concludes slot_a (λ stands. stands ≡ Refused number slot_a) stands_a
