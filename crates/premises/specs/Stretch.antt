-- Two ends joined up to a slot: what is premised of the slots before slot n, and of none after. Assumes nothing.
use Rattle.std.specs.Prelude.{◌≡◌, true, ℕ, ◌+◌, ◌/◌, ◌<◌}
use Rattle.book.specs.declared.Book.{Book}
use Rattle.channel.specs.Bytes.{sgidle}
use Rattle.channel.specs.Forms.{unit_byte, ArrivesAs}
use Rattle.channel.specs.declared.unit.Form.{Form}
use Rattle.protocol.specs.Sent.{Sent, Alone, Part, Unit}
use Rattle.protocol.specs.Slot.{started, offer_allowed}
use Rattle.protocol.specs.Call.{end_at, sent_at}
use Rattle.protocol.specs.Damage.{GroupArrives}
use Rattle.protocol.specs.Pair.{MayJoin, JoinedPair}
use Rattle.protocol.specs.declared.Endpoint.{Endpoint}
use Rattle.protocol.specs.declared.Drive.{Drive}

-- what arrives before slot n is within the allowed damage, and a group whose first byte arrives before it arrives whole before it
pub record ArrivesUpTo (n d : ℕ) (sent : ℕ → Sent) (heard : ℕ → ℕ) : Type 0 where
  pub early : (t : ℕ) → t < d → t < n → heard t / 2 ≡ sgidle / 2
  pub alone : (t b : ℕ) → t + d < n → sent t ≡ Alone b → heard (t + d) / 2 ≡ b / 2
  pub units : (t : ℕ) (f : Form) (u : ℕ) → t + d < n → sent t ≡ Unit f u → ArrivesAs f (unit_byte f u) (heard (t + d))
  pub groups : (t value : ℕ) → t + d + 5 < n → ((place : ℕ) → place < 6 → sent (t + place) ≡ Part place value)
      → GroupArrives value heard (t + d)
  pub whole : (t value : ℕ) → t + d < n → sent t ≡ Part 0 value → t + d + 5 < n

-- no slot before slot n is refused under 12
abbrev pub AllowedUpTo : ℕ → Endpoint → (ℕ → ℕ) → (ℕ → Drive) → Type 0
AllowedUpTo n e heard given =
    (t : ℕ) → t < n → offer_allowed (end_at e heard given t) (given t) (end_at e heard given t).phase ≡ true

pub record JoinedUpTo (n d : ℕ) (bo ba : Book) (go ga : ℕ → Drive) (ho ha : ℕ → ℕ) : Type 0 where
  pub books : MayJoin d bo ba
  pub allowed_o : AllowedUpTo n (started bo) ho go
  pub allowed_a : AllowedUpTo n (started ba) ha ga
  pub to_o : ArrivesUpTo n d (sent_at (started ba) ha ga) ho
  pub to_a : ArrivesUpTo n d (sent_at (started bo) ho go) ha

-- a joined pair whose ends are given and hear in the slots before slot n what these are given and hear
pub record GoesOn (n d : ℕ) (bo ba : Book) (go ga : ℕ → Drive) (ho ha : ℕ → ℕ) : Type 0 where
  pub given_o : ℕ → Drive
  pub given_a : ℕ → Drive
  pub heard_o : ℕ → ℕ
  pub heard_a : ℕ → ℕ
  pub pair : JoinedPair d bo ba given_o given_a heard_o heard_a
  pub same_given_o : (t : ℕ) → t < n → given_o t ≡ go t
  pub same_given_a : (t : ℕ) → t < n → given_a t ≡ ga t
  pub same_heard_o : (t : ℕ) → t < n → heard_o t ≡ ho t
  pub same_heard_a : (t : ℕ) → t < n → heard_a t ≡ ha t
