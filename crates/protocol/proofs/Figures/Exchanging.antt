-- The sentences of "One slot" on the exchange as figures: Answering, Originating, Versions, Collecting and Clock, in that order and in those
-- words. Each row is computed. Assumes nothing.
use Rattle.std.specs.Prelude.{None}
use mathlib.Core.Path.{◌≡◌, refl}
use mathlib.Core.Bool.{true, false, cond}
use mathlib.Core.List.{List, [], ◌∷◌, ◌++◌, map}
use Prim.Native.Nat.{ℕ, ◌+◌, ◌*◌, ◌/◌, ◌%◌}
use lib.Dec.{eqb}
use lib.ListN.{length, replicate, take, drop}
use Rattle.book.specs.declared.Entry.{Entry}
use Rattle.book.specs.declared.Book.{Book}
use Rattle.protocol.specs.Slot.{started, slot_of}
use Rattle.protocol.proofs.Computing.{computing}
use Rattle.protocol.specs.Opened.{drive_with}
use Rattle.protocol.specs.declared.Awaited.TheVariants.{Run, Group, Nothing}
use Rattle.protocol.specs.declared.Sending.{Sending}
use Rattle.protocol.specs.declared.Sending.TheVariants.{Idle, Hail, Mask, Parameters, Done}
use Rattle.protocol.specs.declared.Phase.{Phase}
use Rattle.protocol.specs.declared.Phase.TheVariants as phase
use Rattle.protocol.specs.declared.Endpoint.{Endpoint}
use Rattle.protocol.specs.declared.Drive.{Drive}
use Rattle.protocol.specs.declared.Outcome.{Outcome}
use Rattle.protocol.specs.declared.Outcome.TheVariants as outcome
use Rattle.protocol.proofs.Figures.Rows.{profile, book_of, leads, signals, nothing, offers, Slot, Row, defined, written, row, passes, slot, hears, hears_all, group, exchanging, six, open_slot}

-- The start: nothing has come and nothing has gone, slots count from 0.

abbrev answerer : ℕ → List Entry → Book
answerer mask es = book_of 1 mask 500 es

abbrev originator_of : ℕ → ℕ → Book
originator_of form mask = book_of 0 mask 500 (profile form 0 ∷ [])

abbrev originator : ℕ → Book
originator mask = originator_of 7 mask

pub record Starts : Type 0 where
  pub answers : started (answerer 3 (profile 7 0 ∷ [])) ≡ exchanging (answerer 3 (profile 7 0 ∷ [])) 0 0 (Run 0 0) (six []) (six []) (Hail 0)
  pub originates : started (originator 3) ≡ exchanging (originator 3) 0 0 (Run 0 0) (six []) (six []) Idle

starts_hold : Starts
unfolding computing
starts_hold = record { answers = refl; originates = refl }

-- What goes and comes.

abbrev sixteen : List ℕ
sixteen = replicate 16 0x57

-- five parameters as they go: each its group after so many Sgpk
abbrev five_after : ℕ → List ℕ → List ℕ → List ℕ → List ℕ → List ℕ → List ℕ
five_after n p0 p1 p2 p3 p4 =
    replicate n 0x07 ++ p0 ++ replicate n 0x17 ++ p1 ++ replicate n 0x27 ++ p2 ++ replicate n 0x37 ++ p3 ++ replicate n 0x47 ++ p4

-- those of the profile
abbrev parameters : ℕ → List ℕ
parameters n = five_after n (group 0x15 0xAD) (group 0x25 0xBD) (group 0x35 0xCD) (group 0x45 0xDD) (group 0x55 0xED)

-- another profile, 0F 1E 2D 3C 4B, and its parameters
abbrev other : Entry
other = record { p0 = 0x0F; p1 = 0x1E; p2 = 0x2D; p3 = 0x3C; p4 = 0x4B; form = 6; w = 0 }

abbrev other_parameters : ℕ → List ℕ
other_parameters n = five_after n (group 0xF5 0x0D) (group 0xE5 0x1D) (group 0xD5 0x2D) (group 0xC5 0x3D) (group 0xB5 0x4D)

-- leads 1011, whose Sd is B3
abbrev leading : Drive
leading = drive_with (leads 1 0 1 1) false None

abbrev opens : ℕ → Entry → ℕ → Outcome
opens version entry since = outcome.Open version entry since (signals 0 1 0 0 0)

-- the values voted: the identifier 3 and these parameters
abbrev values : ℕ → ℕ → ℕ → ℕ → ℕ → List ℕ
values p0 p1 p2 p3 p4 = 3 ∷ p0 ∷ p1 ∷ p2 ∷ p3 ∷ p4 ∷ []

abbrev theirs : List ℕ
theirs = values 0xA1 0xB2 0xC3 0xD4 0xE5

-- an end on a version that has heard all but the last byte of p4, in slot 300
abbrev lacks_one_on : ℕ → Book → List ℕ → Sending → Endpoint
lacks_one_on version b vs s = exchanging b 300 version (Group 5 5) (six (0x5 ∷ 0xE ∷ 0x5 ∷ 0xE ∷ 0x5 ∷ [])) (six (take 5 vs)) s

abbrev lacks_one : Book → List ℕ → Sending → Endpoint
lacks_one b vs s = lacks_one_on 2 b vs s

-- an end on a version that has heard all, in slot 300
abbrev has_heard_on : ℕ → Book → List ℕ → Sending → Endpoint
has_heard_on version b vs s = exchanging b 300 version Nothing (six []) vs s

abbrev has_heard : Book → List ℕ → Sending → Endpoint
has_heard b vs s = has_heard_on 2 b vs s

-- the last byte goes of a parameter whose last byte is this one
abbrev last_byte : ℕ → Outcome → List Slot
last_byte byte stands = passes 0x43 nothing byte stands ∷ []

abbrev zeros : Entry
zeros = record { p0 = 0; p1 = 0; p2 = 0; p3 = 0; p4 = 0; form = 6; w = 0 }

-- an answerer with these entries that has heard the values sends its last byte
abbrev concludes_on : ℕ → List Entry → List ℕ → ℕ → Outcome → Row
concludes_on version es vs byte stands = row (has_heard_on version (answerer 3 es) vs (Parameters 189)) (last_byte byte stands)

abbrev concludes : List Entry → List ℕ → ℕ → Outcome → Row
concludes es vs byte stands = concludes_on 2 es vs byte stands

abbrev answering : List Row
answering =
    -- Send Sgvi until 16 contiguous Sgvi have come; from that slot send the own mask as an identifier. An identifier or parameter is a
    -- group: three DL DH pairs, six bytes. Then send Sdidle.
    row (started (answerer 2 (profile 7 0 ∷ [])))
    (hears_all (replicate 15 0x57 ++ (0x43 ∷ [])) 0x57
    ++ hears (sixteen ++ replicate 6 0x57) (replicate 15 0x57 ++ group 0x25 0x0D ++ (0x43 ∷ [])))
    -- On the originator's identifier settle the version. Then collect p0 to p4. From the slot that completes p4, send five parameters, each
    -- 32 Sgpk and its group. These are the originator's values if some entry equals them. With the last byte sent the end opens. One opened
    -- by its own last byte sends as an open end from the next slot.
    ∷ row (started (answerer 3 (other ∷ profile 7 0 ∷ [])))
    (hears (sixteen ++ group 0x15 0x0D) (replicate 15 0x57 ++ group 0x35 0x0D ++ (0x43 ∷ []))
    ++ hears (parameters 4 ++ replicate 188 0x43) (replicate 49 0x43 ++ take 189 (parameters 32))
    ++ (passes 0x43 leading 0xED (opens 1 (profile 7 0) 260) ∷ passes 0x43 leading 0xB3 (opens 1 (profile 7 0) 260) ∷ []))
    -- else those of entry 0, and refuses 22
    ∷ row (lacks_one (answerer 3 (other ∷ profile 7 0 ∷ [])) (values 0xA1 0xB2 0xC3 0xD5 0) Idle)
    (hears (0xED ∷ replicate 188 0x43) (take 189 (other_parameters 32))
    ++ (passes 0x43 nothing 0x4D (outcome.Refused 22 489) ∷ passes 0x57 nothing 0x43 (outcome.Refused 22 489) ∷ []))
    -- all five are compared, as bytes, with each of the n entries
    ∷ concludes (profile 7 0 ∷ other ∷ []) theirs 0xED (opens 2 (profile 7 0) 300)
    ∷ concludes (profile 7 0 ∷ []) (values 0xA0 0xB2 0xC3 0xD4 0xE5) 0xED (outcome.Refused 22 300)
    ∷ concludes (profile 7 0 ∷ []) (values 0xA1 0xB3 0xC3 0xD4 0xE5) 0xED (outcome.Refused 22 300)
    ∷ concludes (profile 7 0 ∷ []) (values 0xA1 0xB2 0xC2 0xD4 0xE5) 0xED (outcome.Refused 22 300)
    ∷ concludes (profile 7 0 ∷ []) (values 0xA1 0xB2 0xC3 0xD6 0xE5) 0xED (outcome.Refused 22 300)
    ∷ concludes (profile 7 0 ∷ []) (values 0xA1 0xB2 0xC3 0xD4 0xF5) 0xED (outcome.Refused 22 300)
    -- bytes received after the opening slot are read by the open rules, and not before
    ∷ row (has_heard (answerer 3 (profile 6 0 ∷ [])) theirs (Parameters 189))
    (passes 0x85 nothing 0xED (opens 2 (profile 6 0) 300)
    ∷ open_slot 2 (profile 6 0) 0x85 nothing 0x43 (0x21 ∷ []) false (signals 0 1 0 0 0)
    ∷ [])
    -- the first 16 bytes sent are Sd, from the next slot on
    ∷ row (has_heard (answerer 3 (profile 6 0 ∷ [])) theirs (Parameters 189))
    (passes 0x43 (offers 1) 0xED (opens 2 (profile 6 0) 300)
    ∷ replicate 16 (open_slot 2 (profile 6 0) 0x43 (offers 1) 0x43 [] false (signals 0 1 0 0 0))
    ++ (open_slot 2 (profile 6 0) 0x43 (offers 1) 0x05 [] true (signals 0 1 0 0 0) ∷ []))
    -- 0 is a value like any other
    ∷ concludes (profile 7 0 ∷ []) (values 0 0 0 0 0) 0xED (outcome.Refused 22 300)
    ∷ concludes (profile 7 0 ∷ zeros ∷ []) (values 0 0 0 0 0) 0x0D (opens 2 zeros 300)
    -- an answerer sends its whole mask as identifier, whatever form its entries have
    ∷ row (started (answerer 3 (profile 8 0 ∷ [])))
    (hears (sixteen ++ replicate 6 0x57) (replicate 15 0x57 ++ group 0x35 0x0D ++ (0x43 ∷ [])))
    -- an answerer on version 1 leaves form 8 entries out when matching: in what it answers
    ∷ row (lacks_one_on 1 (answerer 3 (other ∷ profile 8 0 ∷ [])) theirs Idle)
    (hears (0xED ∷ replicate 188 0x43) (take 189 (other_parameters 32)) ++ (passes 0x43 nothing 0x4D (outcome.Refused 22 489) ∷ []))
    ∷ row (lacks_one_on 2 (answerer 3 (other ∷ profile 8 0 ∷ [])) theirs Idle)
    (hears (0xED ∷ replicate 188 0x43) (take 189 (parameters 32)) ++ (passes 0x43 nothing 0xED (opens 2 (profile 8 0) 489) ∷ []))
    -- and in what it opens on: form 8 alone, on version 1 alone, and no other entry of the book
    ∷ concludes_on 1 (profile 8 0 ∷ []) theirs 0xED (outcome.Refused 22 300)
    ∷ concludes_on 2 (profile 8 0 ∷ []) theirs 0xED (opens 2 (profile 8 0) 300)
    ∷ concludes_on 1 (profile 7 0 ∷ []) theirs 0xED (opens 1 (profile 7 0) 300)
    ∷ concludes_on 1 (profile 6 0 ∷ []) theirs 0xED (opens 1 (profile 6 0) 300)
    ∷ concludes_on 1 (profile 0 8 ∷ []) theirs 0xED (opens 1 (profile 0 8) 300)
    ∷ concludes_on 1 (profile 8 0 ∷ other ∷ []) (values 0x0F 0x1E 0x2D 0x3C 0x4B) 0x4D (opens 1 other 300)
    ∷ concludes_on 2 (profile 8 0 ∷ []) (values 0xA0 0xB2 0xC3 0xD4 0xE5) 0xED (outcome.Refused 22 300)
    ∷ []

answering_holds : defined answering ≡ written answering
unfolding computing
answering_holds = refl

-- an originator on version 2 that has heard all but the last byte of p4: it hears that byte and sends this one
abbrev completes : List ℕ → Sending → ℕ → Outcome → Row
completes vs s byte stands = row (lacks_one (originator 3) vs s) (passes 0xED nothing byte stands ∷ [])

-- one with this form and mask that has heard all but the last byte of an identifier below 16, and has sent so many Sgvi
abbrev lacks_identifier_of : ℕ → ℕ → ℕ → ℕ → Endpoint
lacks_identifier_of form mask their_mask n =
    exchanging (originator_of form mask) 300 0 (Group 0 5) (six (their_mask ∷ 0 ∷ their_mask ∷ 0 ∷ their_mask ∷ [])) (six []) (Hail n)

abbrev lacks_identifier : ℕ → ℕ → ℕ → Endpoint
lacks_identifier mask their_mask n = lacks_identifier_of 7 mask their_mask n

abbrev originating : List Row
originating =
    -- Send Sdidle until 16 contiguous Sgvi have come, then Sgvi.
    row (started (originator 3))
    (hears_all (replicate 15 0x57 ++ (0x43 ∷ [])) 0x43 ++ hears sixteen (replicate 15 0x43 ++ (0x57 ∷ [])))
    -- On the answerer's identifier settle the version; from that slot, but after at least 16 Sgvi sent, send the own mask as a group. After
    -- the mask send five parameters of entry 0 in the same manner, then Sdidle. When its own are all sent and the other's p0 to p4 all
    -- received, the end opens. Opened by a received byte, it sends as an open end in that slot already.
    ∷ row (started (originator 3))
    (hears (sixteen ++ group 0x35 0x0D ++ take 15 (parameters 4))
    (replicate 15 0x43 ++ replicate 16 0x57 ++ group 0x35 0x0D)
    ++ hears (drop 15 (take 40 (parameters 4)) ++ replicate 165 0x43) (parameters 32)
    ++ hears_all (replicate 10 0x43 ++ take 9 (drop 40 (parameters 4))) 0x43
    ++ (passes 0xED leading 0xB3 (opens 2 (profile 7 0) 246) ∷ passes 0x43 leading 0xB3 (opens 2 (profile 7 0) 246) ∷ []))
    -- at least 16 Sgvi: after 15 one more goes, after 16 the mask
    ∷ row (lacks_identifier 3 3 15) (hears (0x0D ∷ 0x43 ∷ []) (0x57 ∷ 0x35 ∷ []))
    ∷ row (lacks_identifier 3 3 16) (hears (0x0D ∷ 0x43 ∷ []) (0x35 ∷ 0x0D ∷ []))
    ∷ row (lacks_identifier 1 3 16) (hears (0x0D ∷ 0x43 ∷ []) (0x15 ∷ 0x0D ∷ []))
    -- or 00 if no version is shared, refusing 21 with its sixth byte
    ∷ row (lacks_identifier 1 2 16)
    (hears (0x0D ∷ replicate 4 0x43) (0x05 ∷ 0x0D ∷ 0x05 ∷ 0x0D ∷ 0x05 ∷ [])
    ++ (passes 0x43 nothing 0x0D (outcome.Refused 21 305) ∷ passes 0x57 nothing 0x43 (outcome.Refused 21 305) ∷ []))
    -- an originator whose entry has form 8 sends bit 1 of its mask alone as identifier
    ∷ row (lacks_identifier_of 8 3 3 16) (hears (0x0D ∷ replicate 6 0x43) (group 0x25 0x0D ++ (0x07 ∷ [])))
    ∷ row (lacks_identifier_of 8 2 3 16) (hears (0x0D ∷ 0x43 ∷ []) (0x25 ∷ 0x0D ∷ []))
    ∷ row (lacks_identifier_of 6 3 3 16) (hears (0x0D ∷ 0x43 ∷ []) (0x35 ∷ 0x0D ∷ []))
    -- and settles the version with that: with an answerer of mask 1 it shares none
    ∷ row (lacks_identifier_of 8 3 1 16)
    (hears (0x0D ∷ replicate 4 0x43) (0x05 ∷ 0x0D ∷ 0x05 ∷ 0x0D ∷ 0x05 ∷ []) ++ (passes 0x43 nothing 0x0D (outcome.Refused 21 305) ∷ []))
    -- opens if all five are equal, else refuses 22
    ∷ completes theirs Done 0x43 (opens 2 (profile 7 0) 300)
    ∷ completes (values 0xA0 0xB2 0xC3 0xD4 0) Done 0x43 (outcome.Refused 22 300)
    ∷ completes (values 0xA1 0xB3 0xC3 0xD4 0) Done 0x43 (outcome.Refused 22 300)
    ∷ completes (values 0xA1 0xB2 0xC2 0xD4 0) Done 0x43 (outcome.Refused 22 300)
    ∷ completes (values 0xA1 0xB2 0xC3 0xD5 0) Done 0x43 (outcome.Refused 22 300)
    -- the first 16 bytes sent are Sd, in the slot of opening already
    ∷ row (lacks_one (originator 3) theirs Done)
    (passes 0xED (offers 1) 0x43 (opens 2 (profile 7 0) 300)
    ∷ replicate 15 (open_slot 2 (profile 7 0) 0x43 (offers 1) 0x43 [] false (signals 0 1 0 0 0))
    ++ (open_slot 2 (profile 7 0) 0x43 (offers 1) 0x05 [] false (signals 0 1 0 0 0)
    ∷ open_slot 2 (profile 7 0) 0x43 (offers 1) 0x0D [] false (signals 0 1 0 0 0)
    ∷ open_slot 2 (profile 7 0) 0x43 (offers 1) 0x81 [] true (signals 0 1 0 0 0)
    ∷ []))
    -- the other's all received, its own not yet all sent
    ∷ completes theirs (Hail 5) 0x57 outcome.Exchanging
    ∷ completes theirs (Mask 3) 0x0D outcome.Exchanging
    ∷ completes theirs (Parameters 100) 0x27 outcome.Exchanging
    -- with the own last byte, the other's being all received or not
    ∷ row (has_heard (originator 3) theirs (Parameters 189))
    (passes 0x43 leading 0xED (opens 2 (profile 7 0) 300) ∷ passes 0x43 leading 0xB3 (opens 2 (profile 7 0) 300) ∷ [])
    ∷ row (has_heard (originator 3) (values 0xA1 0xB2 0xC3 0xD4 0xE4) (Parameters 189)) (last_byte 0xED (outcome.Refused 22 300))
    ∷ row (has_heard (originator 3) theirs (Parameters 188)) (hears (0x43 ∷ []) (0x55 ∷ []))
    ∷ row (exchanging (originator 3) 300 2 (Run 5 0) (six []) (six (take 5 theirs)) (Parameters 189)) (hears (0x43 ∷ 0x43 ∷ []) (0xED ∷ 0x43 ∷ []))
    ∷ []

originating_holds : defined originating ≡ written originating
unfolding computing
originating_holds = refl

-- Versions: both masks are ANDed; the highest set bit wins, bit 0 being version 1. Nothing set: no version, 21.

abbrev version_of : Phase → ℕ
version_of (phase.Exchanging slot version a s) = version
version_of (phase.Open slot version entry line) = version
version_of (phase.Refused number slot) = number

-- the version that an end of this form, role and mask settles, or the number that it refuses under, in the slot of the identifier's last
-- byte
abbrev settled_of : ℕ → ℕ → ℕ → ℕ → ℕ
settled_of form role mask their_mask =
    let copy : List ℕ = their_mask % 16 ∷ their_mask / 16 ∷ [] in
    version_of
    (slot_of
    (exchanging (book_of role mask 500 (profile form 0 ∷ [])) 300 0 (Group 0 5) (six (take 5 (copy ++ copy ++ copy))) (six []) (cond (eqb role 0) (Hail 16) Idle))
    (16 * (their_mask / 16) + 0x0D) nothing).state.phase

abbrev settled : ℕ → ℕ → ℕ → ℕ
settled role mask their_mask = settled_of 7 role mask their_mask

-- the own mask, the identifier heard, and the version
abbrev versions : List (ℕ × ℕ × ℕ)
versions =
    (1, 0x01, 1)
    ∷ (1, 0x03, 1)
    ∷ (2, 0x02, 2)
    ∷ (2, 0x03, 2)
    ∷ (3, 0x01, 1)
    ∷ (3, 0x02, 2)
    ∷ (3, 0x03, 2)
    ∷ (3, 0x81, 1)
    ∷ (3, 0xFE, 2)
    ∷ []

-- no version: an answerer refuses, an originator has its 00 to send first
abbrev unshared : List (ℕ × ℕ)
unshared = (1, 0x02) ∷ (2, 0x01) ∷ (3, 0x80) ∷ (3, 0x00) ∷ (2, 0xFD) ∷ []

-- the same for form 8, of which an originator settles the version with bit 1 of its mask alone
abbrev eights : List (ℕ × ℕ × ℕ)
eights = (2, 0x02, 2) ∷ (2, 0x03, 2) ∷ (3, 0x02, 2) ∷ (3, 0x03, 2) ∷ (3, 0xFE, 2) ∷ []

abbrev eights_unshared : List (ℕ × ℕ)
eights_unshared = (2, 0x01) ∷ (3, 0x01) ∷ (3, 0x81) ∷ (3, 0x80) ∷ (3, 0x00) ∷ []

pub record VersionsSettled : Type 0 where
  pub answering : map (λ (v : ℕ × ℕ × ℕ). settled 1 v.0 v.1) versions ≡ map (λ (v : ℕ × ℕ × ℕ). v.2) versions
  pub originating : map (λ (v : ℕ × ℕ × ℕ). settled 0 v.0 v.1) versions ≡ map (λ (v : ℕ × ℕ × ℕ). v.2) versions
  pub refused : map (λ (v : ℕ × ℕ). settled 1 v.0 v.1) unshared ≡ map (λ (v : ℕ × ℕ). 21) unshared
  pub none : map (λ (v : ℕ × ℕ). settled 0 v.0 v.1) unshared ≡ map (λ (v : ℕ × ℕ). 0) unshared
  -- form 8
  pub eights : map (λ (v : ℕ × ℕ × ℕ). settled_of 8 0 v.0 v.1) eights ≡ map (λ (v : ℕ × ℕ × ℕ). v.2) eights
  pub eights_none : map (λ (v : ℕ × ℕ). settled_of 8 0 v.0 v.1) eights_unshared ≡ map (λ (v : ℕ × ℕ). 0) eights_unshared
  -- an answerer settles it with its mask
  pub eights_answering : map (settled_of 8 1 3) (0x01 ∷ 0x02 ∷ 0x03 ∷ []) ≡ 1 ∷ 2 ∷ 2 ∷ []

versions_hold : VersionsSettled
unfolding computing
versions_hold =
    record {
      answering = refl;
      originating = refl;
      refused = refl;
      none = refl;
      eights = refl;
      eights_none = refl;
      eights_answering = refl;
    }

-- Collecting. An originator that has sent all and awaits the run of p4: with E5 it opens, with another value it refuses 22, and until then it
-- sends Sdidle.

abbrev awaits_run : Endpoint
awaits_run = exchanging (originator 3) 300 2 (Run 5 0) (six []) (six (take 5 theirs)) Done

-- it hears these bytes, and stands so after the last of them
abbrev hearing : List ℕ → ℕ → Outcome → Row
hearing bytes last stands = row awaits_run (hears_all bytes 0x43 ++ (passes last nothing 0x43 stands ∷ []))

-- it hears these bytes and then the last byte of a group: the value is E5; the value is another; no group is complete
abbrev votes : List ℕ → Row
votes bytes = hearing bytes 0xED (opens 2 (profile 7 0) (300 + length bytes))

abbrev votes_another : List ℕ → Row
votes_another bytes = hearing bytes 0xED (outcome.Refused 22 (300 + length bytes))

abbrev completes_none : List ℕ → Row
completes_none bytes = hearing bytes 0xED outcome.Exchanging

-- the first five bytes of the group of E5
abbrev begun : List ℕ
begun = 0x55 ∷ 0xED ∷ 0x55 ∷ 0xED ∷ 0x55 ∷ []

abbrev four : List ℕ
four = replicate 4 0x47

abbrev collecting : List Row
collecting =
    -- parameter k is awaited after 4 contiguous Sgpk
    votes (four ++ begun)
    ∷ completes_none (replicate 3 0x47 ++ begun)
    ∷ votes (replicate 5 0x47 ++ begun)
    -- a run is broken by each kind of byte: Sgvi, another Sgpk, DL, DH, Sd, Sgr, Sgss, Sgidle, Sgdis, unassigned
    ∷ completes_none (replicate 3 0x47 ++ (0x57 ∷ 0x47 ∷ begun))
    ∷ completes_none (replicate 3 0x47 ++ (0x37 ∷ 0x47 ∷ begun))
    ∷ completes_none (replicate 3 0x47 ++ (0x15 ∷ 0x47 ∷ begun))
    ∷ completes_none (replicate 3 0x47 ++ (0x1D ∷ 0x47 ∷ begun))
    ∷ completes_none (replicate 3 0x47 ++ (0x43 ∷ 0x47 ∷ begun))
    ∷ completes_none (replicate 3 0x47 ++ (0x67 ∷ 0x47 ∷ begun))
    ∷ completes_none (replicate 3 0x47 ++ (0x77 ∷ 0x47 ∷ begun))
    ∷ completes_none (replicate 3 0x47 ++ (0x7F ∷ 0x47 ∷ begun))
    ∷ completes_none (replicate 3 0x47 ++ (0xFF ∷ 0x47 ∷ begun))
    ∷ completes_none (replicate 3 0x47 ++ (0x0F ∷ 0x47 ∷ begun))
    -- B8 is ignored on receipt
    ∷ votes (replicate 4 0x46 ++ (0x54 ∷ 0xEC ∷ 0x54 ∷ 0xEC ∷ 0x54 ∷ []))
    -- only one thing is awaited at a time: the run for it counts from the slot after the one before it was completed
    ∷ row (exchanging (originator 3) 300 2 (Group 4 0) (six []) (six (take 4 theirs)) Done)
    (hears_all (four ++ group 0x45 0xDD ++ group 0x55 0xED) 0x43)
    ∷ row (exchanging (originator 3) 300 2 (Group 4 0) (six []) (six (take 4 theirs)) Done)
    (hears_all (group 0x45 0xDD ++ replicate 3 0x47 ++ group 0x55 0xED) 0x43)
    ∷ row (exchanging (originator 3) 300 2 (Group 4 0) (six []) (six (take 4 theirs)) Done)
    (hears_all (group 0x45 0xDD ++ four ++ begun) 0x43 ++ (passes 0xED nothing 0x43 (opens 2 (profile 7 0) 315) ∷ []))
    -- once such a run has come it need not come again; a byte of any other kind than the next one due drops the group
    ∷ votes (four ++ (0x55 ∷ 0xED ∷ 0x55 ∷ 0x57 ∷ begun))
    ∷ votes (four ++ (0x55 ∷ 0xED ∷ 0x55 ∷ 0x37 ∷ begun))
    ∷ votes (four ++ (0x55 ∷ 0xED ∷ 0x55 ∷ 0x43 ∷ begun))
    ∷ votes (four ++ (0x55 ∷ 0xED ∷ 0x55 ∷ 0x67 ∷ begun))
    ∷ votes (four ++ (0x55 ∷ 0xED ∷ 0x55 ∷ 0x7F ∷ begun))
    ∷ votes (four ++ (0x55 ∷ 0xED ∷ 0xED ∷ begun))
    ∷ votes (four ++ (0xED ∷ begun))
    -- no copy of a dropped group counts: with two of them left over, one more is no group
    ∷ completes_none (four ++ (0x55 ∷ 0xED ∷ 0x55 ∷ 0xED ∷ 0x57 ∷ 0x55 ∷ []))
    ∷ completes_none (four ++ (0x55 ∷ 0xED ∷ 0x55 ∷ 0xED ∷ 0x37 ∷ 0x55 ∷ []))
    ∷ completes_none (four ++ (0x55 ∷ 0xED ∷ 0x55 ∷ 0xED ∷ 0x43 ∷ 0x55 ∷ []))
    ∷ completes_none (four ++ (0x55 ∷ 0xED ∷ 0x55 ∷ 0xED ∷ 0x67 ∷ 0x55 ∷ []))
    ∷ completes_none (four ++ (0x55 ∷ 0xED ∷ 0x55 ∷ 0xED ∷ 0x7F ∷ 0x55 ∷ []))
    ∷ completes_none (four ++ (0x55 ∷ 0xED ∷ 0x55 ∷ 0xED ∷ 0xED ∷ 0x55 ∷ []))
    ∷ completes_none (four ++ (0x55 ∷ 0xED ∷ 0x55 ∷ 0xED ∷ 0x55 ∷ 0x43 ∷ []))
    -- a DL begins a group, and no DH does, after a dropped one neither
    ∷ completes_none (four ++ (0xED ∷ 0x55 ∷ 0xED ∷ 0x55 ∷ []))
    ∷ completes_none (four ++ (0x55 ∷ 0x43 ∷ 0xED ∷ 0x55 ∷ 0xED ∷ 0x55 ∷ []))
    -- and a DL that drops one begins another
    ∷ votes (four ++ (0x15 ∷ begun))
    ∷ votes (four ++ (0x15 ∷ 0x1D ∷ 0x15 ∷ begun))
    ∷ votes (four ++ (0x15 ∷ 0x1D ∷ 0x15 ∷ 0x1D ∷ 0x15 ∷ begun))
    ∷ completes_none (four ++ (0x55 ∷ 0xED ∷ 0x55 ∷ 0xED ∷ 0x55 ∷ 0x55 ∷ []))
    ∷ completes_none (four ++ (0x55 ∷ 0xED ∷ 0x55 ∷ 0x55 ∷ 0xED ∷ 0x55 ∷ []))
    ∷ completes_none (four ++ (0x55 ∷ 0x55 ∷ 0xED ∷ 0x55 ∷ []))
    -- the value is the majority of the three copies bit by bit: one copy wrong, each wrong at another bit, two wrong at one bit
    ∷ votes (four ++ (0x05 ∷ 0x0D ∷ 0x55 ∷ 0xED ∷ 0x55 ∷ []))
    ∷ votes (four ++ (0x55 ∷ 0xED ∷ 0xA5 ∷ 0x1D ∷ 0x55 ∷ []))
    ∷ hearing (four ++ begun) 0x1D (opens 2 (profile 7 0) 309)
    ∷ hearing (four ++ (0x45 ∷ 0xED ∷ 0x55 ∷ 0x6D ∷ 0x55 ∷ [])) 0xCD (opens 2 (profile 7 0) 309)
    ∷ votes_another (four ++ (0x45 ∷ 0xED ∷ 0x45 ∷ 0xED ∷ 0x55 ∷ []))
    ∷ votes_another (four ++ (0x55 ∷ 0xED ∷ 0x45 ∷ 0xED ∷ 0x45 ∷ []))
    ∷ votes_another (four ++ (0x45 ∷ 0xED ∷ 0x55 ∷ 0xED ∷ 0x45 ∷ []))
    ∷ votes_another (four ++ (0x55 ∷ 0x6D ∷ 0x55 ∷ 0x6D ∷ 0x55 ∷ []))
    -- outside a group, bytes that aren't awaited are discarded
    ∷ votes (0x15 ∷ 0x1D ∷ 0x57 ∷ 0x07 ∷ 0x43 ∷ 0x67 ∷ 0x7F ∷ four ++ (0x43 ∷ 0x57 ∷ 0x47 ∷ 0x67 ∷ 0x7F ∷ begun))
    -- an identifier is awaited after the run of 16 Sgvi, and parameters by no means before it
    ∷ row (started (answerer 1 (profile 7 0 ∷ [])))
    (hears (sixteen ++ (0x25 ∷ 0x0D ∷ 0x25 ∷ 0x43 ∷ 0x25 ∷ 0x0D ∷ 0x25 ∷ 0x0D ∷ 0x25 ∷ [])) (replicate 15 0x57 ++ group 0x15 0x0D ++ replicate 4 0x43)
    ++ (passes 0x0D nothing 0x43 (outcome.Refused 21 25) ∷ passes 0x43 nothing 0x43 (outcome.Refused 21 25) ∷ []))
    ∷ row (started (answerer 1 (profile 7 0 ∷ []))) (hears_all (replicate 15 0x57 ++ group 0x25 0x0D) 0x57)
    ∷ row (started (answerer 1 (profile 7 0 ∷ []))) (hears_all (replicate 16 0x07 ++ group 0x25 0x0D) 0x57)
    -- Sgr is no byte of that run, and breaks it
    ∷ row (started (answerer 1 (profile 7 0 ∷ []))) (hears_all (replicate 15 0x57 ++ (0x67 ∷ 0x57 ∷ [])) 0x57)
    ∷ row (started (answerer 1 (profile 7 0 ∷ []))) (hears_all (replicate 16 0x67 ++ group 0x25 0x0D) 0x57)
    ∷ []

collecting_holds : defined collecting ≡ written collecting
unfolding computing
collecting_holds = refl

-- Clock. An end in the exchange in one of the last slots of 500.

abbrev late : ℕ → Endpoint
late slot = exchanging (originator 3) slot 2 (Group 5 5) (six (0x5 ∷ 0xE ∷ 0x5 ∷ 0xE ∷ 0x5 ∷ [])) (six (take 5 theirs)) Done

abbrev clock : List Row
clock =
    -- With limit L, an end neither open nor refused after acting and sending in slot L-1 refuses 23.
    row (late 498) (passes 0x43 nothing 0x43 outcome.Exchanging ∷ passes 0x43 nothing 0x43 (outcome.Refused 23 499) ∷ passes 0x43 nothing 0x43 (outcome.Refused 23 499) ∷ [])
    ∷ row (started (book_of 1 3 425 (profile 7 0 ∷ [])))
    (hears_all (replicate 424 0x7F) 0x57 ++ (passes 0x7F nothing 0x57 (outcome.Refused 23 424) ∷ passes 0x57 nothing 0x43 (outcome.Refused 23 424) ∷ []))
    -- in slot L-1 an end opens, by a received byte or by its own last byte, or refuses for another reason
    ∷ row (late 499) (passes 0xED nothing 0x43 (opens 2 (profile 7 0) 499) ∷ [])
    ∷ row (exchanging (originator 3) 499 2 Nothing (six []) theirs (Parameters 189)) (passes 0x43 nothing 0xED (opens 2 (profile 7 0) 499) ∷ [])
    ∷ row (exchanging (originator 3) 499 2 Nothing (six []) (values 0 0 0 0 0) (Parameters 189)) (passes 0x43 nothing 0xED (outcome.Refused 22 499) ∷ [])
    ∷ row (exchanging (originator 1) 499 0 (Run 1 0) (six []) (six (2 ∷ [])) (Mask 5)) (passes 0x43 nothing 0x0D (outcome.Refused 21 499) ∷ [])
    -- Refused ends send Sdidle for ever and ignore what comes. The slot of opening or refusing is reported and kept.
    ∷ row (record { book = originator 3; nibbles = six []; values = six []; phase = phase.Refused 21 43 })
    (map (λ heard. passes heard leading 0x43 (outcome.Refused 21 43)) (0x57 ∷ 0x07 ∷ 0x15 ∷ 0x1D ∷ 0x43 ∷ 0x67 ∷ 0x7F ∷ []))
    ∷ []

clock_holds : defined clock ≡ written clock
unfolding computing
clock_holds = refl

-- All of these.
pub record ExchangeFigures : Type 0 where
  pub starts : Starts
  pub answers : defined answering ≡ written answering
  pub originates : defined originating ≡ written originating
  pub settles : VersionsSettled
  pub collects : defined collecting ≡ written collecting
  pub clocks : defined clock ≡ written clock

pub exchange_figures : ExchangeFigures
exchange_figures =
    record {
      starts = starts_hold;
      answers = answering_holds;
      originates = originating_holds;
      settles = versions_hold;
      collects = collecting_holds;
      clocks = clock_holds;
    }
