-- Leads ahead of data, in forms 0 and 6, for the slots after the first 16 Sd: chattering leads can't stop the data, and steady leads arrive.
-- Assumes nothing.
use Rattle.std.specs.Prelude.{◌≡◌, Bool, true, false, not, ◌&&◌, ◌⊎◌, ℕ, ◌+◌, ◌-◌, ◌≤◌, ◌<◌, leb, Option, Some, None}
use Rattle.book.specs.declared.Book.{Book}
use Rattle.book.specs.Kept.{book_ok}
use Rattle.channel.specs.declared.byte.Leads.{Leads}
use Rattle.protocol.specs.Sent.{Sent}
use Rattle.protocol.specs.Exchange.{entry_of}
use Rattle.protocol.specs.Schedule.{meets, concludes_o, concludes_a}
use Rattle.protocol.specs.Opened.{shape_of, is_word, has_pair, opening_sd, held}
use Rattle.protocol.specs.Ranges.{none_due}
use Rattle.protocol.specs.Slot.{started}
use Rattle.protocol.specs.Call.{end_at, sent_at, taken_at, stands_at, Allowed}
use Rattle.protocol.specs.Pair.{JoinedPair, ProfileIn, shared_version}
use Rattle.protocol.specs.Carried.{shown_after}
use Rattle.protocol.specs.Delivery.{signals_of}
use Rattle.protocol.specs.declared.Shape.{Shape}
use Rattle.protocol.specs.declared.Shape.TheVariants as shape
use Rattle.protocol.specs.declared.Outbound.{Outbound}
use Rattle.protocol.specs.declared.Line.{Line}
use Rattle.protocol.specs.declared.Phase.{Phase}
use Rattle.protocol.specs.declared.Phase.TheVariants.{Exchanging, Open, Refused}
use Rattle.protocol.specs.declared.Endpoint.{Endpoint}
use Rattle.protocol.specs.declared.Drive.{Drive}

-- Slots after the first 16 Sd of an end that is open in form 0 or 6.

abbrev pub past_sd : Shape → Outbound → Bool
past_sd s o = not (has_pair s) && leb opening_sd o.opening

-- such a slot that is free of the break rule and of a DH due, and in which a unit is offered
abbrev pub is_offered : Option ℕ → Bool
is_offered None = false
is_offered (Some u) = true

abbrev pub is_free : Shape → Outbound → Drive → Bool
is_free s o g = none_due o.due && not (is_word s && held g.flag o.last.bk o.before.bk)

abbrev pub asks : Shape → Outbound → Drive → Bool
asks s o g = past_sd s o && is_free s o g && is_offered g.offer

abbrev pub asks_in : Endpoint → Drive → Phase → Bool
asks_in e g (Exchanging slot version a s) = false
asks_in e g (Open slot version i line) = asks (shape_of (entry_of e.book i) version) line.outbound g
asks_in e g (Refused number slot) = false

module _ (e : Endpoint) (heard : ℕ → ℕ) (given : ℕ → Drive) where
  -- the state keeps the last two Sd that went in the call, those of the opening, of the break rule and of idle slots too: the last once one
  -- has gone, the one before it once two have
  pub record KeepsLastTwo (t : ℕ) (o : Outbound) : Type 0 where
    pub last : 1 ≤ o.opening → (shown_after (sent_at e heard given) t).last ≡ o.last
    pub before : 2 ≤ o.opening → (shown_after (sent_at e heard given) t).before ≡ o.before

  abbrev pub LastTwoKept : Type 0
  LastTwoKept = (t slot version i : ℕ) (line : Line) → (end_at e heard given t).phase ≡ Open slot version i line
      → KeepsLastTwo t line.outbound

  -- Chattering leads can't stop the data.

  abbrev pub asks_at : ℕ → Bool
  asks_at t = asks_in (end_at e heard given t) (given t) (end_at e heard given t).phase

  -- a slot between two, these counted, that is one of those slots and takes its unit
  pub record TakenFrom (from to : ℕ) : Type 0 where
    pub slot : ℕ
    pub after : from ≤ slot
    pub by : slot ≤ to
    pub asks : asks_at slot ≡ true
    pub takes : taken_at e heard given slot ≡ true

  pub record DataGoes : Type 0 where
    -- of any three such slots that follow one another, one takes its unit
    pub one : (a b c : ℕ) → a < b → b < c → asks_at a ≡ true → asks_at b ≡ true → asks_at c ≡ true
        → ((t : ℕ) → a < t → t < c → asks_at t ≡ true → t ≡ b)
        → (taken_at e heard given a ≡ true) ⊎ ((taken_at e heard given b ≡ true) ⊎ (taken_at e heard given c ≡ true))
    -- and whatever lies between three such slots, one from the first to the third does
    pub some : (a b c : ℕ) → a < b → b < c → asks_at a ≡ true → asks_at b ≡ true → asks_at c ≡ true → TakenFrom a c

-- Steady leads arrive.

-- in how many slots at most: 6 in form 0, 4 in form 6
abbrev pub waits : Shape → ℕ
waits (shape.Word w) = 6
waits (shape.Unit f) = 4

-- the leads are out: the last two Sd of the n slots have them
pub record OutTwice (sent : ℕ → Sent) (leads : Leads) (n : ℕ) : Type 0 where
  pub last : (shown_after sent n).last.leads ≡ leads
  pub before : (shown_after sent n).before.leads ≡ leads

-- after so many slots at most, from a slot on
pub record OutWithin (sent : ℕ → Sent) (leads : Leads) (t most : ℕ) : Type 0 where
  pub slots : ℕ
  pub within : slots ≤ most
  pub out : OutTwice sent leads (t + slots)

-- leads that are given from slot t on, and no others while they have to wait, however many units are offered
abbrev pub LeadsGoOut : Endpoint → (ℕ → ℕ) → (ℕ → Drive) → Type 0
LeadsGoOut e heard given =
    (t slot version i : ℕ) (line : Line) (leads : Leads) → (end_at e heard given t).phase ≡ Open slot version i line
    → past_sd (shape_of (entry_of (end_at e heard given t).book i) version) line.outbound ≡ true
    → ((m : ℕ) → m < waits (shape_of (entry_of (end_at e heard given t).book i) version) → (given (t + m)).leads ≡ leads)
    → OutWithin (sent_at e heard given) leads t (waits (shape_of (entry_of (end_at e heard given t).book i) version))

-- At the far end. The sender sends as an open end from slot x on; from slot t on it is given these leads for n slots: they are out within
-- the slots that they have to wait, and stand at the far end from d slots later on until d slots after the last of the n.
pub record Stands (d : ℕ) (s : Shape) (x : ℕ) (sender : Endpoint) (hs : ℕ → ℕ) (gs : ℕ → Drive)
    (receiver : Endpoint) (hr : ℕ → ℕ) (gr : ℕ → Drive) (t n : ℕ) (leads : Leads) : Type 0 where
  pub slots : ℕ
  pub within : slots ≤ waits s
  pub out : OutTwice (λ m. sent_at sender hs gs (x + m)) leads (t + slots - x)
  pub stands : (u : ℕ) → t + slots + d ≤ u → u ≤ t + n + d → (signals_of (stands_at receiver hr gr u)).leads ≡ leads

abbrev pub LeadsStand : (d : ℕ) (s : Shape) (x : ℕ) → Endpoint → (ℕ → ℕ) → (ℕ → Drive) → Endpoint → (ℕ → ℕ) → (ℕ → Drive) → Type 0
LeadsStand d s x sender hs gs receiver hr gr =
    (t n : ℕ) (leads : Leads) → x + opening_sd ≤ t → waits s ≤ n → ((m : ℕ) → m < n → (gs (t + m)).leads ≡ leads)
    → Stands d s x sender hs gs receiver hr gr t n leads

pub record BothStand (d : ℕ) (bo ba : Book) (go ga : ℕ → Drive) (ho ha : ℕ → ℕ) : Type 0 where
  pub from_o : LeadsStand d (shape_of (entry_of bo 0) (shared_version bo ba)) (concludes_o (meets d) d bo ba) (started bo) ho go (started ba) ha ga
  pub from_a : LeadsStand d (shape_of (entry_of bo 0) (shared_version bo ba)) (concludes_a (meets d) d bo ba + 1) (started ba) ha ga (started bo) ho go

-- All of this.
pub record LeadsAhead : Type 0 where
  -- of a call from an accepted book, whatever it hears and is given, and if no offer in it is refused
  pub last_two : (b : Book) → book_ok b ≡ true → (heard : ℕ → ℕ) (given : ℕ → Drive) → LastTwoKept (started b) heard given
  pub units : (b : Book) → book_ok b ≡ true → (heard : ℕ → ℕ) (given : ℕ → Drive) → Allowed (started b) heard given
      → DataGoes (started b) heard given
  pub leads : (b : Book) → book_ok b ≡ true → (heard : ℕ → ℕ) (given : ℕ → Drive) → Allowed (started b) heard given
      → LeadsGoOut (started b) heard given
  -- of a joined pair that opens in form 0 or 6, with every drive and allowed damage
  pub far_end : (d : ℕ) (bo ba : Book) (go ga : ℕ → Drive) (ho ha : ℕ → ℕ) → JoinedPair d bo ba go ga ho ha → (shared_version bo ba ≡ 0 → ⊥)
      → ProfileIn bo ba → has_pair (shape_of (entry_of bo 0) (shared_version bo ba)) ≡ false → BothStand d bo ba go ga ho ha
