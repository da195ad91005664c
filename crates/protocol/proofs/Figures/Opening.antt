-- The sentences of "One slot" on an open end as figures, in that order and in those words. Each row is computed. Assumes nothing.
use Rattle.std.specs.Prelude.{Some, None}
use mathlib.Core.Path.{◌≡◌, refl}
use mathlib.Core.Bool.{Bool, true, false, cond, ◌||◌}
use mathlib.Core.List.{List, [], ◌∷◌, ◌++◌, map}
use Prim.Native.Nat.{ℕ}
use lib.Dec.{eqb}
use lib.ListN.{replicate}
use Rattle.book.specs.declared.Entry.{Entry}
use Rattle.channel.specs.declared.byte.Leads.{Leads}
use Rattle.protocol.proofs.Computing.{computing}
use Rattle.protocol.specs.Opened.{drive_with}
use Rattle.protocol.specs.declared.Signals.{Signals}
use Rattle.protocol.specs.declared.Outbound.{Outbound}
use Rattle.protocol.specs.declared.Inbound.{Inbound}
use Rattle.protocol.specs.declared.Endpoint.{Endpoint}
use Rattle.protocol.specs.declared.Drive.{Drive}
use Rattle.protocol.proofs.Figures.Rows.{profile, book_of, leads, signals, nothing, offers, Slot, Row, defined, written, row, opened, sent, got, idle_got, open_slot}

-- A form on a version, as an entry has it.
pub record On : Type 0 where
  pub version : ℕ
  pub entry : Entry

abbrev pub words : ℕ → On
words w = record { version = 2; entry = profile 0 w }

abbrev pub six : On
six = record { version = 2; entry = profile 6 0 }

abbrev pub seven : ℕ → On
seven version = record { version = version; entry = profile 7 0 }

abbrev pub eight : On
eight = record { version = 2; entry = profile 8 0 }

-- form 8 stands with mask 2
abbrev mask_of : On → ℕ
mask_of f = cond (eqb f.entry.form 8) 2 3

abbrev pub at : On → Outbound → Inbound → Endpoint
at f o i = opened (book_of 1 (mask_of f) 500 (f.entry ∷ [])) f.version o i

-- the signals that stand after two Sdidle
abbrev idle : Signals
idle = signals 0 1 0 0 0

-- What is sent: the end hears Sdidle in every slot.

-- a unit is offered, under the flag or not
abbrev breaks : Drive
breaks = drive_with (leads 0 1 0 0) true None

abbrev breaks_offering : ℕ → Drive
breaks_offering u = drive_with (leads 0 1 0 0) true (Some u)

abbrev leads_offering : Leads → ℕ → Drive
leads_offering s u = drive_with s false (Some u)

-- this byte goes, and the unit offered is taken or not
abbrev pub sends : On → Drive → ℕ → Bool → Slot
sends f given byte taken = open_slot f.version f.entry 0x43 given byte [] taken idle

-- from the opening: 16 Sd with the leads given, then these bytes, an offer being taken in none of these slots; then the unit 1 goes as the
-- last byte
abbrev opening : On → List ℕ → ℕ → Row
opening f pair byte =
    row (at f (sent 0 None 0 0) idle_got)
    (replicate 13 (sends f (offers 1) 0x43 false)
    ++ (sends f (leads_offering (leads 1 0 1 1) 1) 0xB3 false ∷ [])
    ++ replicate 2 (sends f (offers 1) 0x43 false)
    ++ map (λ b. sends f (offers 1) b false) pair
    ++ (sends f (offers 1) byte true ∷ []))

-- a slot: what is given, the byte that goes, and whether the unit offered is taken
abbrev pub Sends : Type 0
Sends = Drive × ℕ × Bool

abbrev pub sends_each : On → List Sends → List Slot
sends_each f slots = map (λ (s : Sends). sends f s.0 s.1 s.2) slots

-- so many of the first bytes have gone
abbrev gone : On → ℕ → List Sends → Row
gone f n slots = row (at f (sent n None 0 0) idle_got) (sends_each f slots)

-- words of 8 bits: the last Sd and the one before it had BK on or off; and so, but the DH of a nibble A is due
abbrev bks : ℕ → ℕ → List Sends → Row
bks bk1 bk2 slots = row (at (words 8) (sent 16 None bk1 bk2) idle_got) (sends_each (words 8) slots)

abbrev owes : ℕ → ℕ → List Sends → Row
owes bk1 bk2 slots = row (at (words 8) (sent 16 (Some 0xA) bk1 bk2) idle_got) (sends_each (words 8) slots)

abbrev sending : List Row
sending =
    -- The first 16 bytes sent are Sd with the leads given; in forms 7 and 8 the pair 05 0D follows. After these an offered unit is taken in
    -- any slot that is free to send it, and the slot reports taken or not; earlier offers are not taken.
    opening (words 8) [] 0x15
    ∷ opening six [] 0x05
    ∷ opening (seven 1) (0x05 ∷ 0x0D ∷ []) 0x03
    ∷ opening (seven 2) (0x05 ∷ 0x0D ∷ []) 0x81
    ∷ opening eight (0x05 ∷ 0x0D ∷ []) 0x80
    -- With none taken, forms 0 and 6 send Sd, forms 7 and 8 send the unit of all ones.
    ∷ gone (words 8) 16
    ((nothing, 0x43, false) ∷ (offers 0xA5, 0x55, true) ∷ (nothing, 0xAD, false) ∷ (nothing, 0x43, false) ∷ [])
    ∷ gone six 16 ((nothing, 0x43, false) ∷ (offers 0x21, 0x85, true) ∷ (offers 0x3F, 0xFD, true) ∷ (nothing, 0x43, false) ∷ [])
    ∷ gone (seven 1) 18 ((nothing, 0xFF, false) ∷ (offers 3, 0x07, true) ∷ (offers 64, 0x81, true) ∷ (nothing, 0xFF, false) ∷ [])
    ∷ gone (seven 2) 18 ((nothing, 0xFF, false) ∷ (offers 3, 0xC1, true) ∷ (offers 64, 0x03, true) ∷ (nothing, 0xFF, false) ∷ [])
    ∷ gone eight 18 ((nothing, 0xFF, false) ∷ (offers 3, 0xC0, true) ∷ (offers 128, 0x01, true) ∷ (nothing, 0xFF, false) ∷ [])
    -- BK is the break flag in form 0, else 0.
    ∷ gone (words 8) 0 ((breaks, 0x4B, false) ∷ (nothing, 0x43, false) ∷ [])
    ∷ gone six 0 ((breaks, 0x43, false) ∷ [])
    ∷ gone six 16 ((breaks, 0x43, false) ∷ (breaks_offering 0x21, 0x85, true) ∷ [])
    ∷ gone (seven 1) 0 ((breaks, 0x43, false) ∷ [])
    ∷ gone (seven 2) 18 ((breaks_offering 1, 0x81, true) ∷ [])
    ∷ gone eight 0 ((breaks, 0x43, false) ∷ [])
    -- In form 0 a DH due goes first; while the flag is on, Sd goes; no unit is taken unless the last two Sd sent had BK 0.
    ∷ gone (words 8) 16
    ((offers 0xA5, 0x55, true)
    ∷ (breaks_offering 0x3C, 0xAD, false)
    ∷ (breaks_offering 0x3C, 0x4B, false)
    ∷ (offers 0x3C, 0x43, false)
    ∷ (offers 0x3C, 0x43, false)
    ∷ (offers 0x3C, 0xC5, true)
    ∷ (offers 0xA5, 0x3D, false)
    ∷ (offers 0xA5, 0x55, true)
    ∷ [])
    ∷ bks 0 0 ((offers 0xA5, 0x55, true) ∷ [])
    ∷ bks 1 0 ((offers 0xA5, 0x43, false) ∷ (offers 0xA5, 0x43, false) ∷ (offers 0xA5, 0x55, true) ∷ [])
    ∷ bks 0 1 ((offers 0xA5, 0x43, false) ∷ (offers 0xA5, 0x55, true) ∷ [])
    ∷ bks 0 0 ((breaks_offering 0xA5, 0x4B, false) ∷ [])
    -- a DH leaves what the last two Sd had as it was
    ∷ owes 1 0
    ((offers 1, 0xAD, false) ∷ (offers 1, 0x43, false) ∷ (offers 1, 0x43, false) ∷ (offers 1, 0x15, true) ∷ [])
    ∷ owes 0 1
    ((offers 1, 0xAD, false) ∷ (offers 1, 0x43, false) ∷ (offers 1, 0x15, true) ∷ [])
    ∷ []

sending_holds : defined sending ≡ written sending
unfolding computing
sending_holds = refl

-- What is received: the first bytes have gone, nothing is offered, and the leads given are 0100.

abbrev first_bytes : On → ℕ
first_bytes f = cond (eqb f.entry.form 7 || eqb f.entry.form 8) 18 16

-- what goes then: an Sd, or the unit of all ones
abbrev goes : On → ℕ
goes f = cond (eqb f.entry.form 7 || eqb f.entry.form 8) 0xFF 0x43

-- a byte comes; these units are delivered and these signals stand
abbrev comes : On → ℕ → List ℕ → Signals → Slot
comes f heard units shown = open_slot f.version f.entry heard nothing (goes f) units false shown

-- these bytes come in this state, and beside each stand the units delivered and the signals after it
abbrev hearing : On → Inbound → List (ℕ × List ℕ × Signals) → Row
hearing f i slots =
    row (at f (sent (first_bytes f) None 0 0) i) (map (λ (s : ℕ × List ℕ × Signals). comes f s.0 s.1 s.2) slots)

-- these bytes come and nothing is delivered; then the last byte, which delivers these units; the signals stay as after two Sdidle
abbrev reads : On → Inbound → List ℕ → ℕ → List ℕ → Row
reads f i quiet last units =
    row (at f (sent (first_bytes f) None 0 0) i) (map (λ b. comes f b [] idle) quiet ++ (comes f last units idle ∷ []))

-- these Sd come one by one, and beside each stand the signals after it
abbrev shows : On → List (ℕ × Signals) → Row
shows f sds = row (at f (sent (first_bytes f) None 0 0) idle_got) (map (λ (s : ℕ × Signals). comes f s.0 [] s.1) sds)

-- the pair has come
abbrev paired : Inbound
paired = got None 2 (signals 0 1 0 0 0) (signals 0 1 0 0 0)

-- this BK was in the last Sd, and this one stands
abbrev standing : ℕ → ℕ → Inbound
standing last stands = got None 0 (signals 0 1 0 0 last) (signals 0 1 0 0 stands)

-- form 0 with BK standing: the bytes come, nothing is delivered, and these signals are shown
abbrev ignores : Inbound → List ℕ → Signals → Row
ignores i bytes shown = row (at (words 8) (sent 16 None 0 0) i) (map (λ b. comes (words 8) b [] shown) bytes)

abbrev receiving : List Row
receiving =
    -- In form 0 a DL then at once a DH delivers a word; anything else drops the half.
    reads (words 8) idle_got (0x55 ∷ []) 0xAD (0xA5 ∷ [])
    ∷ reads (words 8) idle_got (0x54 ∷ []) 0xAC (0xA5 ∷ [])
    ∷ reads (words 8) idle_got (0x55 ∷ 0x43 ∷ []) 0xAD []
    ∷ reads (words 8) idle_got (0x55 ∷ 0x57 ∷ []) 0xAD []
    ∷ reads (words 8) idle_got (0x55 ∷ 0x07 ∷ []) 0xAD []
    ∷ reads (words 8) idle_got (0x55 ∷ 0x67 ∷ []) 0xAD []
    ∷ reads (words 8) idle_got (0x55 ∷ 0x7F ∷ []) 0xAD []
    ∷ reads (words 8) idle_got (0x15 ∷ 0x55 ∷ []) 0xAD (0xA5 ∷ [])
    ∷ reads (words 8) idle_got [] 0xAD []
    ∷ hearing (words 8) (got (Some 0x5) 0 idle idle) ((0xAD, 0xA5 ∷ [], idle) ∷ (0xAD, [], idle) ∷ [])
    -- word of w bits, received value taken modulo 2^w
    ∷ reads (words 5) idle_got (0xF5 ∷ []) 0xFD (0x1F ∷ [])
    ∷ reads (words 6) idle_got (0xF5 ∷ []) 0xFD (0x3F ∷ [])
    ∷ reads (words 7) idle_got (0xF5 ∷ []) 0xFD (0x7F ∷ [])
    ∷ reads (words 8) idle_got (0xF5 ∷ []) 0xFD (0xFF ∷ [])
    -- In form 6 a byte with B7 0 delivers.
    ∷ reads six idle_got [] 0x85 (0x21 ∷ [])
    ∷ reads six idle_got [] 0x84 (0x21 ∷ [])
    ∷ reads six idle_got [] 0x05 (0x01 ∷ [])
    ∷ reads six idle_got (0x43 ∷ 0x57 ∷ 0x07 ∷ 0x67 ∷ 0x7F ∷ 0x87 ∷ []) 0xFD (0x3F ∷ [])
    -- Forms 7 and 8 deliver every byte after the first received 05 0D (B8 ignored in the pair).
    ∷ reads (seven 1) idle_got (0x05 ∷ 0x0D ∷ []) 0x03 (1 ∷ [])
    ∷ reads (seven 2) idle_got (0x05 ∷ 0x0D ∷ []) 0x81 (1 ∷ [])
    ∷ reads eight idle_got (0x05 ∷ 0x0D ∷ []) 0x80 (1 ∷ [])
    ∷ reads (seven 1) idle_got (0x04 ∷ 0x0C ∷ []) 0x02 (1 ∷ [])
    ∷ reads (seven 1) idle_got (0x05 ∷ 0x05 ∷ 0x0D ∷ []) 0x03 (1 ∷ [])
    ∷ reads (seven 1) idle_got (0x15 ∷ 0x05 ∷ 0x0D ∷ []) 0x03 (1 ∷ [])
    ∷ reads (seven 1) idle_got (0x05 ∷ 0x43 ∷ 0x0D ∷ []) 0x03 []
    ∷ reads (seven 1) idle_got (0x05 ∷ 0x57 ∷ 0x0D ∷ []) 0x03 []
    ∷ reads (seven 1) idle_got (0x05 ∷ 0x07 ∷ 0x0D ∷ []) 0x03 []
    ∷ reads (seven 1) idle_got (0x05 ∷ 0x67 ∷ 0x0D ∷ []) 0x03 []
    ∷ reads (seven 1) idle_got (0x05 ∷ 0x7F ∷ 0x0D ∷ []) 0x03 []
    ∷ reads (seven 1) idle_got (0x05 ∷ 0x15 ∷ 0x0D ∷ []) 0x03 []
    ∷ reads (seven 1) idle_got (0x05 ∷ 0x1D ∷ 0x0D ∷ []) 0x03 []
    ∷ reads (seven 1) idle_got (0x15 ∷ 0x0D ∷ []) 0x03 []
    ∷ reads (seven 1) idle_got (0x05 ∷ 0x1D ∷ []) 0x03 []
    ∷ reads (seven 1) idle_got (0x0D ∷ 0x0D ∷ []) 0x03 []
    ∷ reads (seven 1) idle_got (0x0D ∷ 0x05 ∷ []) 0x03 []
    ∷ reads eight idle_got (0x05 ∷ 0x43 ∷ 0x0D ∷ []) 0x03 []
    ∷ reads eight idle_got (0x05 ∷ 0x67 ∷ 0x0D ∷ []) 0x03 []
    -- every byte: Sd, Sgvi, Sgr, the pair again, the unit of all ones, B7 on or off
    ∷ hearing (seven 1) paired
    ((0x43, 33 ∷ [], idle)
    ∷ (0x57, 43 ∷ [], idle)
    ∷ (0x67, 51 ∷ [], idle)
    ∷ (0x05, 2 ∷ [], idle)
    ∷ (0x0D, 6 ∷ [], idle)
    ∷ (0xFF, 127 ∷ [], idle)
    ∷ (0xFE, 127 ∷ [], idle)
    ∷ [])
    ∷ hearing (seven 2) paired
    ((0x43, 66 ∷ [], idle)
    ∷ (0x57, 106 ∷ [], idle)
    ∷ (0x67, 102 ∷ [], idle)
    ∷ (0x05, 32 ∷ [], idle)
    ∷ (0x0D, 48 ∷ [], idle)
    ∷ (0xFF, 127 ∷ [], idle)
    ∷ (0xFE, 127 ∷ [], idle)
    ∷ [])
    ∷ hearing eight paired
    ((0x43, 194 ∷ [], idle)
    ∷ (0x67, 230 ∷ [], idle)
    ∷ (0x05, 160 ∷ [], idle)
    ∷ (0x0D, 176 ∷ [], idle)
    ∷ (0xFF, 255 ∷ [], idle)
    ∷ (0xFE, 127 ∷ [], idle)
    ∷ [])
    -- Each lead, and BK, takes a new value when the last two Sd received agree on it, starting as if two Sdidle had come: each by itself.
    ∷ shows six ((0xC3, idle) ∷ (0xC3, signals 1 1 0 0 0) ∷ (0x43, signals 1 1 0 0 0) ∷ (0x43, idle) ∷ [])
    ∷ shows six ((0x03, idle) ∷ (0x03, signals 0 0 0 0 0) ∷ (0x43, signals 0 0 0 0 0) ∷ (0x43, idle) ∷ [])
    ∷ shows six ((0x63, idle) ∷ (0x63, signals 0 1 1 0 0) ∷ (0x43, signals 0 1 1 0 0) ∷ (0x43, idle) ∷ [])
    ∷ shows six ((0x53, idle) ∷ (0x53, signals 0 1 0 1 0) ∷ (0x43, signals 0 1 0 1 0) ∷ (0x43, idle) ∷ [])
    ∷ shows six ((0x4B, idle) ∷ (0x4B, signals 0 1 0 0 1) ∷ (0x43, signals 0 1 0 0 1) ∷ (0x43, idle) ∷ [])
    ∷ shows (words 8) ((0xBB, idle) ∷ (0xBA, signals 1 0 1 1 1) ∷ [])
    ∷ shows (seven 2) ((0xBB, idle) ∷ (0xBB, signals 1 0 1 1 1) ∷ [])
    ∷ shows eight ((0xBB, idle) ∷ (0xBB, signals 1 0 1 1 1) ∷ [])
    -- two Sd that agree on one lead and not on the others
    ∷ shows six ((0xE3, idle) ∷ (0x93, signals 1 1 0 0 0) ∷ (0x13, signals 1 0 0 1 0) ∷ [])
    ∷ shows six ((0xBB, idle) ∷ (0x43, idle) ∷ (0xBB, idle) ∷ (0x43, idle) ∷ [])
    -- the last two Sd, whatever came between them
    ∷ hearing six idle_got
    ((0xC3, [], idle)
    ∷ (0x85, 0x21 ∷ [], idle)
    ∷ (0x57, [], idle)
    ∷ (0x67, [], idle)
    ∷ (0xC3, [], signals 1 1 0 0 0)
    ∷ (0x85, 0x21 ∷ [], signals 1 1 0 0 0)
    ∷ (0x07, [], signals 1 1 0 0 0)
    ∷ [])
    ∷ hearing (words 8) idle_got
    ((0xC3, [], idle) ∷ (0x55, [], idle) ∷ (0xAD, 0xA5 ∷ [], idle) ∷ (0x67, [], idle) ∷ (0xC3, [], signals 1 1 0 0 0) ∷ [])
    -- Sd bytes count from opening, in forms 7 and 8 until the pair.
    ∷ hearing (seven 1) idle_got
    ((0xC3, [], idle)
    ∷ (0x67, [], idle)
    ∷ (0xC3, [], signals 1 1 0 0 0)
    ∷ (0x43, [], signals 1 1 0 0 0)
    ∷ (0x05, [], signals 1 1 0 0 0)
    ∷ (0x0D, [], signals 1 1 0 0 0)
    ∷ (0x43, 33 ∷ [], signals 1 1 0 0 0)
    ∷ (0x43, 33 ∷ [], signals 1 1 0 0 0)
    ∷ [])
    -- While BK stands on in form 0, data is ignored: one Sd with BK on is not enough, nor one with BK off.
    ∷ ignores (standing 1 1) (0x55 ∷ 0xAD ∷ []) (signals 0 1 0 0 1)
    ∷ ignores (got (Some 0x5) 0 (signals 0 1 0 0 1) (signals 0 1 0 0 1)) (0xAD ∷ []) (signals 0 1 0 0 1)
    ∷ ignores (standing 0 1) (0x55 ∷ 0xAD ∷ []) (signals 0 1 0 0 1)
    ∷ reads (words 8) (standing 1 0) (0x55 ∷ []) 0xAD (0xA5 ∷ [])
    ∷ hearing (words 8) idle_got
    ((0x4B, [], idle)
    ∷ (0x55, [], idle)
    ∷ (0xAD, 0xA5 ∷ [], idle)
    ∷ (0x4B, [], signals 0 1 0 0 1)
    ∷ (0x55, [], signals 0 1 0 0 1)
    ∷ (0xAD, [], signals 0 1 0 0 1)
    ∷ (0x43, [], signals 0 1 0 0 1)
    ∷ (0x55, [], signals 0 1 0 0 1)
    ∷ (0xAD, [], signals 0 1 0 0 1)
    ∷ (0x43, [], idle)
    ∷ (0x55, [], idle)
    ∷ (0xAD, 0xA5 ∷ [], idle)
    ∷ [])
    -- and in form 6 it is not
    ∷ hearing six (standing 1 1) ((0x85, 0x21 ∷ [], signals 0 1 0 0 1) ∷ [])
    ∷ []

receiving_holds : defined receiving ≡ written receiving
unfolding computing
receiving_holds = refl

-- All of these.
pub record OpenFigures : Type 0 where
  pub sends : defined sending ≡ written sending
  pub receives : defined receiving ≡ written receiving

pub open_figures : OpenFigures
open_figures = record { sends = sending_holds; receives = receiving_holds }
