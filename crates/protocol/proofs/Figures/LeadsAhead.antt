-- Leads ahead of data, as figures: what an open end sends in forms 0 and 6 after the first 16 Sd, rule by rule, the first that applies. Each
-- row is computed. Assumes nothing.
use Rattle.std.specs.Prelude.{Option, Some, None}
use mathlib.Core.Path.{◌≡◌, refl}
use mathlib.Core.Bool.{true, false}
use mathlib.Core.List.{List, [], ◌∷◌, ◌++◌}
use Prim.Native.Nat.{ℕ}
use lib.ListN.{replicate, get_or}
use Rattle.channel.specs.declared.byte.Leads.{Leads}
use Rattle.channel.specs.declared.unit.Form.TheVariants.{Six}
use Rattle.protocol.proofs.Computing.{computing}
use Rattle.protocol.specs.Opened.{drive_with, outbound_of}
use Rattle.protocol.specs.Sent.{Sent, Silence, Alone, Unit}
use Rattle.protocol.specs.Carried.{Shown, shown_after}
use Rattle.protocol.specs.declared.Signals.{Signals}
use Rattle.protocol.specs.declared.Claim.{Claim}
use Rattle.protocol.specs.declared.Claim.TheVariants.{Free, Second, Owed}
use Rattle.protocol.specs.declared.Drive.{Drive}
use Rattle.protocol.proofs.Figures.Rows.{leads, signals, offers, Row, defined, written, row, sent, idle_got}
use Rattle.protocol.proofs.Figures.Opening.{On, words, six, seven, eight, at, Sends, sends_each}

-- Leads by what they are called below: the Sd of idle goes as 43 and that of ready as C3, of chatter as B3.
abbrev ready : Leads
ready = leads 1 1 0 0

abbrev chatter : Leads
chatter = leads 1 0 1 1

-- these leads are given and the unit 21 hex is offered, or nothing; or that under the flag
abbrev offering : Leads → Drive
offering l = drive_with l false (Some 0x21)

abbrev quietly : Leads → Drive
quietly l = drive_with l false None

abbrev flagged : Leads → Drive
flagged l = drive_with l true (Some 0x21)

-- the first 16 Sd have gone, a DH is due or none, someone has a claim on the line or nobody, and the last two Sd had these leads, the later first
abbrev stands : On → Option ℕ → Claim → Leads → Leads → List Sends → Row
stands f due claim last before slots =
    row (at f (outbound_of 16 due claim (record { leads = last; bk = false }) (record { leads = before; bk = false })) idle_got) (sends_each f slots)

-- nobody has a claim, and the last two Sd had the leads 0100
abbrev settled : On → List Sends → Row
settled f slots = stands f None Free (leads 0 1 0 0) (leads 0 1 0 0) slots

-- one slot, with the leads 0100 given and a unit offered: it is taken at once, or an Sd goes first
abbrev after : Leads → Leads → ℕ → Row
after last before n =
    stands six None Free last before (replicate n (offers 0x21, 0x43, false) ++ ((offers 0x21, 0x85, true) ∷ []))

-- the opening: 16 Sd, with the leads given in the last three of them; then the unit 21 hex is taken after so many Sd more
abbrev from_opening : Sends → Sends → Sends → ℕ → Row
from_opening a b c n =
    row (at six (sent 0 None 0 0) idle_got)
    (sends_each six
    (replicate 13 (offers 0x21, 0x43, false) ++ (a ∷ b ∷ c ∷ []) ++ replicate n (offers 0x21, 0x43, false) ++ ((offers 0x21, 0x85, true) ∷ [])))

abbrev in_six : List Row
in_six =
    -- 4: the leads given differ from those in either of the last two Sd sent: an Sd with the leads given, and a second is due; 3: it goes; 5: then
    -- an offered unit is taken
    settled six
    ((offers 0x21, 0x85, true)
    ∷ (offering ready, 0xC3, false)
    ∷ (offering ready, 0xC3, false)
    ∷ (offering ready, 0x85, true)
    ∷ (offering ready, 0x85, true)
    ∷ [])
    -- in either of the last two: in the last, in the one before it, in both, in neither
    ∷ after (leads 1 1 0 0) (leads 0 1 0 0) 2
    ∷ after (leads 0 1 0 0) (leads 1 1 0 0) 2
    ∷ after (leads 1 1 0 0) (leads 1 1 0 0) 2
    ∷ after (leads 0 1 0 0) (leads 0 1 0 0) 0
    -- each lead by itself
    ∷ after (leads 0 0 0 0) (leads 0 1 0 0) 2
    ∷ after (leads 0 1 1 0) (leads 0 1 0 0) 2
    ∷ after (leads 0 1 0 1) (leads 0 1 0 0) 2
    ∷ after (leads 0 1 0 0) (leads 0 0 0 0) 2
    ∷ after (leads 0 1 0 0) (leads 0 1 1 0) 2
    ∷ after (leads 0 1 0 0) (leads 0 1 0 1) 2
    ∷ stands six None Free (leads 0 1 1 0) (leads 0 1 1 0) ((offering (leads 0 1 1 0), 0x85, true) ∷ [])
    ∷ stands six None Free (leads 0 1 0 1) (leads 0 1 0 1) ((offering (leads 0 1 0 1), 0x85, true) ∷ [])
    -- 4 holds whether or not a unit is offered, and so does 3
    ∷ settled six
    ((quietly ready, 0xC3, false)
    ∷ (quietly (leads 0 1 0 0), 0xC3, false)
    ∷ (offers 0x21, 0x85, true)
    ∷ (offers 0x21, 0x43, false)
    ∷ [])
    -- 3: the second repeats the leads of the first, whatever is given; after it one unit is taken before leads may claim the line again
    ∷ settled six
    ((offering ready, 0xC3, false)
    ∷ (offering chatter, 0xC3, false)
    ∷ (offering chatter, 0x85, true)
    ∷ (offering chatter, 0xB3, false)
    ∷ (offering ready, 0xB3, false)
    ∷ (offering ready, 0x85, true)
    ∷ (offering ready, 0xC3, false)
    ∷ (offering ready, 0xC3, false)
    ∷ (offering ready, 0x85, true)
    ∷ (offering ready, 0x85, true)
    ∷ [])
    ∷ stands six None (Second ready) (leads 0 1 0 0) (leads 0 1 0 0) ((offers 0x21, 0xC3, false) ∷ (offers 0x21, 0x85, true) ∷ [])
    -- 6: while a unit is owed and none is offered, each Sd has the leads of its own slot, and no second is due; the unit is owed still
    ∷ settled six
    ((quietly ready, 0xC3, false)
    ∷ (quietly ready, 0xC3, false)
    ∷ (quietly chatter, 0xB3, false)
    ∷ (quietly (leads 0 1 0 0), 0x43, false)
    ∷ (offering chatter, 0x85, true)
    ∷ (offering chatter, 0xB3, false)
    ∷ (offering chatter, 0xB3, false)
    ∷ (offering chatter, 0x85, true)
    ∷ [])
    -- an idle slot's Sd counts: of the last two, both have the leads given
    ∷ stands six None Owed (leads 1 1 0 0) (leads 1 1 0 0)
    ((quietly chatter, 0xB3, false)
    ∷ (quietly chatter, 0xB3, false)
    ∷ (offering chatter, 0x85, true)
    ∷ (offering chatter, 0x85, true)
    ∷ [])
    -- every Sd of the opening counts: the last two of them are the last two sent
    ∷ from_opening (offers 0x21, 0x43, false) (offers 0x21, 0x43, false) (offers 0x21, 0x43, false) 0
    ∷ from_opening (offering chatter, 0xB3, false) (offers 0x21, 0x43, false) (offers 0x21, 0x43, false) 0
    ∷ from_opening (offers 0x21, 0x43, false) (offering chatter, 0xB3, false) (offers 0x21, 0x43, false) 2
    ∷ from_opening (offers 0x21, 0x43, false) (offers 0x21, 0x43, false) (offering chatter, 0xB3, false) 2
    -- leads that are given from a slot on wait 4 slots at most
    ∷ stands six None (Second ready) (leads 0 1 0 0) (leads 0 1 0 0)
    ((offering chatter, 0xC3, false) ∷ (offering chatter, 0x85, true) ∷ (offering chatter, 0xB3, false) ∷ (offering chatter, 0xB3, false) ∷ [])
    -- the flag is nothing to form 6
    ∷ settled six
    ((flagged ready, 0xC3, false) ∷ (flagged chatter, 0xC3, false) ∷ (flagged chatter, 0x85, true) ∷ (flagged chatter, 0xB3, false) ∷ [])
    ∷ []

abbrev in_words : List Row
in_words =
    -- 3, 4 and 5 in form 0: a word is owed the line, and its DH goes at once
    settled (words 8)
    ((offering ready, 0xC3, false)
    ∷ (offering chatter, 0xC3, false)
    ∷ (offering chatter, 0x15, true)
    ∷ (offering chatter, 0x2D, false)
    ∷ (offering chatter, 0xB3, false)
    ∷ (offering chatter, 0xB3, false)
    ∷ (offering chatter, 0x15, true)
    ∷ (offering chatter, 0x2D, false)
    ∷ (offering chatter, 0x15, true)
    ∷ [])
    -- 1: a DH due goes before the leads
    ∷ stands (words 8) (Some 0xA) Free (leads 0 1 0 0) (leads 0 1 0 0)
    ((offering ready, 0xAD, false) ∷ (offering ready, 0xC3, false) ∷ (offering ready, 0xC3, false) ∷ (offering ready, 0x15, true) ∷ [])
    -- 6 in form 0
    ∷ stands (words 8) None Owed (leads 0 1 0 0) (leads 0 1 0 0)
    ((quietly ready, 0xC3, false)
    ∷ (offering ready, 0x15, true)
    ∷ (offering ready, 0x2D, false)
    ∷ (offering ready, 0xC3, false)
    ∷ (quietly chatter, 0xC3, false)
    ∷ (offering chatter, 0x15, true)
    ∷ [])
    -- 2: the break rule comes before the leads, and its Sd count: of the last two, both have the leads given
    ∷ settled (words 8)
    ((flagged ready, 0xCB, false)
    ∷ (offering ready, 0xC3, false)
    ∷ (offering ready, 0xC3, false)
    ∷ (offering ready, 0x15, true)
    ∷ [])
    -- after it leads may claim the line as before it
    ∷ settled (words 8)
    ((flagged ready, 0xCB, false)
    ∷ (offering ready, 0xC3, false)
    ∷ (offering chatter, 0xB3, false)
    ∷ (offering chatter, 0xB3, false)
    ∷ (offering ready, 0xB3, false)
    ∷ (offering ready, 0x15, true)
    ∷ [])
    -- it comes between the two without undoing them: the second is still due after it, with the leads of the first
    ∷ settled (words 8)
    ((offering ready, 0xC3, false)
    ∷ (flagged chatter, 0xBB, false)
    ∷ (offering chatter, 0xB3, false)
    ∷ (offering chatter, 0xB3, false)
    ∷ (offering chatter, 0xC3, false)
    ∷ (offering chatter, 0x15, true)
    ∷ (offering chatter, 0x2D, false)
    ∷ (offering chatter, 0xB3, false)
    ∷ (offering chatter, 0xB3, false)
    ∷ (offering chatter, 0x15, true)
    ∷ [])
    -- leads that are given from a slot on wait 6 slots at most, the last of the break rule being one of them
    ∷ row (at (words 8) (outbound_of 16 None (Second ready) (signals 0 1 0 0 0) (signals 0 1 0 0 1)) idle_got)
    (sends_each (words 8)
    ((offering chatter, 0xB3, false)
    ∷ (offering chatter, 0xC3, false)
    ∷ (offering chatter, 0x15, true)
    ∷ (offering chatter, 0x2D, false)
    ∷ (offering chatter, 0xB3, false)
    ∷ (offering chatter, 0xB3, false)
    ∷ []))
    -- and after the two, the unit is still owed
    ∷ stands (words 8) None Owed (leads 1 1 0 0) (leads 1 1 0 0)
    ((flagged chatter, 0xBB, false)
    ∷ (offers 0x21, 0x43, false)
    ∷ (offers 0x21, 0x43, false)
    ∷ (offering chatter, 0x15, true)
    ∷ (offering chatter, 0x2D, false)
    ∷ (offering chatter, 0xB3, false)
    ∷ [])
    ∷ []

-- in forms 7 and 8 nothing changes: the leads given are nothing to an end whose first bytes have gone
abbrev unclaimed : On → ℕ → Row
unclaimed f byte =
    row (at f (sent 18 None 0 0) idle_got)
    (sends_each f ((quietly ready, 0xFF, false) ∷ (offering chatter, byte, true) ∷ (offering ready, byte, true) ∷ (quietly chatter, 0xFF, false) ∷ []))

abbrev in_streams : List Row
in_streams = unclaimed (seven 1) 0x43 ∷ unclaimed (seven 2) 0x85 ∷ unclaimed eight 0x84 ∷ []

-- Over what went in these slots: the last Sd, the one before it, and the signals that stand at the far end; data between leaves them.
abbrev went : ℕ → Sent
went n = get_or (Alone 0xC3 ∷ Alone 0xE3 ∷ Alone 0x55 ∷ Unit Six 0x21 ∷ Alone 0xBB ∷ Alone 0x43 ∷ Alone 0xC3 ∷ []) n Silence

abbrev shown : Signals → Signals → Signals → Shown
shown last before standing = record { last = last; before = before; standing = standing }

pub record ShownFigures : Type 0 where
  pub none : shown_after went 0 ≡ shown (signals 0 1 0 0 0) (signals 0 1 0 0 0) (signals 0 1 0 0 0)
  pub two : shown_after went 2 ≡ shown (signals 1 1 1 0 0) (signals 1 1 0 0 0) (signals 1 1 0 0 0)
  pub over_data : shown_after went 5 ≡ shown (signals 1 0 1 1 1) (signals 1 1 1 0 0) (signals 1 1 1 0 0)
  pub parted : shown_after went 7 ≡ shown (signals 1 1 0 0 0) (signals 0 1 0 0 0) (signals 1 1 0 0 0)

-- All of these.
pub record LeadsFigures : Type 0 where
  pub shows : ShownFigures
  pub units : defined in_six ≡ written in_six
  pub words : defined in_words ≡ written in_words
  pub streams : defined in_streams ≡ written in_streams

pub leads_figures : LeadsFigures
unfolding computing shown_after
leads_figures =
    record {
      shows = record { none = refl; two = refl; over_data = refl; parted = refl };
      units = refl;
      words = refl;
      streams = refl;
    }
