-- "Numbers of refusal", 12 and 13, as figures, and each range of docs/RANGES.md: a state at its edge that is well formed and one past it that
-- 13 refuses. Each row is computed. Assumes nothing.
use Rattle.std.specs.Prelude.{Option, Some, None, Ok, Err}
use mathlib.Core.Path.{◌≡◌, refl}
use mathlib.Core.Bool.{true, false}
use mathlib.Core.List.{List, [], ◌∷◌, map}
use Prim.Native.Nat.{ℕ}
use lib.ListN.{replicate}
use Rattle.book.specs.declared.Entry.{Entry}
use Rattle.book.specs.declared.Book.{Book}
use Rattle.book.specs.Book.{no_entry, book_with}
use Rattle.channel.specs.declared.unit.Form.TheVariants.{Six}
use Rattle.protocol.specs.Sent.{Silence, Unit}
use Rattle.protocol.specs.Opened.{outbound_of}
use Rattle.protocol.specs.Slot.{started, step, slot_step, slot_of, refuses, Reply, refusal_number}
use Rattle.protocol.proofs.Computing.{computing}
use Rattle.protocol.specs.declared.Awaited.{Awaited}
use Rattle.protocol.specs.declared.Awaited.TheVariants.{Run, Group, Nothing}
use Rattle.protocol.specs.declared.Sending.{Sending}
use Rattle.protocol.specs.declared.Sending.TheVariants.{Idle, Hail, Mask, Parameters, Done}
use Rattle.protocol.specs.declared.Claim.{Claim}
use Rattle.protocol.specs.declared.Claim.TheVariants.{Free, Second, Owed}
use Rattle.protocol.specs.declared.Outbound.{Outbound}
use Rattle.protocol.specs.declared.Inbound.{Inbound}
use Rattle.protocol.specs.declared.Phase.TheVariants as phase
use Rattle.protocol.specs.declared.Endpoint.{Endpoint}
use Rattle.protocol.specs.declared.Outcome.TheVariants as outcome
use Rattle.protocol.specs.declared.SlotRefusal.TheVariants.{UnitOutOfRange, OutsideRanges}
use Rattle.protocol.proofs.Figures.Rows.{profile, book_of, leads, signals, nothing, offers, Slot, Row, defined, written, row, passes, exchanging, six, opened, sent, got, idle_got, open_slot}

-- Open ends of each form, the first bytes having gone.

abbrev book_on : ℕ → Entry → Book
book_on mask e = book_of 1 mask 500 (e ∷ [])

abbrev words : ℕ → Endpoint
words w = opened (book_on 3 (profile 0 w)) 2 (sent 16 None 0 0) idle_got

abbrev units : ℕ → ℕ → ℕ → Endpoint
units form version n = opened (book_on 3 (profile form 0)) version (sent n None 0 0) idle_got

abbrev eight : Endpoint
eight = opened (book_on 2 (profile 8 0)) 2 (sent 18 None 0 0) idle_got

-- a slot in which the end hears Sdidle and is offered a unit
abbrev refused : ℕ → Slot
refused unit = record { heard = 0x43; given = offers unit; reply = Err UnitOutOfRange }

abbrev taken : ℕ → Entry → ℕ → ℕ → Slot
taken version e unit byte = open_slot version e 0x43 (offers unit) byte [] true (signals 0 1 0 0 0)

-- an originator that opens when it hears ED
abbrev opens_next : Endpoint
opens_next =
    exchanging (book_of 0 3 500 (profile 6 0 ∷ [])) 300 2 (Group 5 5) (six (0x5 ∷ 0xE ∷ 0x5 ∷ 0xE ∷ 0x5 ∷ []))
    (six (3 ∷ 0xA1 ∷ 0xB2 ∷ 0xC3 ∷ 0xD4 ∷ [])) Done

-- 12: unit out of range.
abbrev twelve : List Row
twelve =
    row (words 5) (refused 32 ∷ taken 2 (profile 0 5) 31 0xF5 ∷ [])
    ∷ row (words 6) (refused 64 ∷ taken 2 (profile 0 6) 63 0xF5 ∷ [])
    ∷ row (words 7) (refused 128 ∷ taken 2 (profile 0 7) 127 0xF5 ∷ [])
    ∷ row (words 8) (taken 2 (profile 0 8) 255 0xF5 ∷ [])
    ∷ row (units 6 2 16) (refused 64 ∷ taken 2 (profile 6 0) 63 0xFD ∷ [])
    ∷ row (units 7 1 18) (refused 128 ∷ taken 1 (profile 7 0) 127 0xFF ∷ [])
    ∷ row (units 7 2 18) (refused 128 ∷ taken 2 (profile 7 0) 127 0xFF ∷ [])
    ∷ row eight (taken 2 (profile 8 0) 255 0xFF ∷ [])
    -- no slot has passed and nothing is sent or delivered: the 16th Sd is still to go
    ∷ row (units 6 2 15)
    (refused 64
    ∷ refused 64
    ∷ open_slot 2 (profile 6 0) 0x85 (offers 63) 0x43 (0x21 ∷ []) false (signals 0 1 0 0 0)
    ∷ taken 2 (profile 6 0) 63 0xFD
    ∷ [])
    -- only an end open before the slot: an end not open ignores the offer, also in the slot in which it opens
    ∷ row (started (book_on 3 (profile 6 0))) (passes 0x43 (offers 255) 0x57 outcome.Exchanging ∷ [])
    ∷ row opens_next
    (passes 0xED (offers 255) 0x43 (outcome.Open 2 (profile 6 0) 300 (signals 0 1 0 0 0)) ∷ refused 255 ∷ [])
    ∷ row (record { book = book_on 3 (profile 6 0); nibbles = six []; values = six []; phase = phase.Refused 21 43 })
    (passes 0x43 (offers 255) 0x43 (outcome.Refused 21 43) ∷ [])
    ∷ []

twelve_holds : defined twelve ≡ written twelve
unfolding computing
twelve_holds = refl

-- 12 and 13 give back the state as it came; 13 is tested first.
abbrev bad_open : Endpoint
bad_open = opened (book_on 3 (profile 6 0)) 2 (sent 17 None 0 0) idle_got

pub record GivenBack : Type 0 where
  pub twelve : slot_of (units 6 2 16) 0x85 (offers 64) ≡ refuses (units 6 2 16) UnitOutOfRange
  pub thirteen : slot_of bad_open 0x85 (offers 63) ≡ refuses bad_open OutsideRanges
  pub both : slot_of bad_open 0x85 (offers 64) ≡ refuses bad_open OutsideRanges
  -- nothing is sent, delivered or taken in such a slot, and in another what the slot says
  pub silent12 : slot_step (units 6 2 16) 0x85 (offers 64) ≡ step (units 6 2 16) Silence
  pub silent13 : slot_step bad_open 0x85 (offers 63) ≡ step bad_open Silence
  pub sends : (slot_step (units 6 2 16) 0x85 (offers 63)).sent ≡ Unit Six 63
  pub delivers : (slot_step (units 6 2 16) 0x85 (offers 63)).delivered ≡ Some 0x21
  pub takes : (slot_step (units 6 2 16) 0x85 (offers 63)).taken ≡ true

given_back : GivenBack
unfolding computing
given_back =
    record {
      twelve = refl;
      thirteen = refl;
      both = refl;
      silent12 = refl;
      silent13 = refl;
      sends = refl;
      delivers = refl;
      takes = refl;
    }

-- 13: the number of the reply to each state, 0 where it passes.

abbrev number_of : Reply → ℕ
number_of (Err refusal) = refusal_number refusal
number_of (Ok passed) = 0

abbrev Ranged : Type 0
Ranged = List (Endpoint × ℕ)

abbrev told : Ranged → List ℕ
told rows = map (λ (r : Endpoint × ℕ). number_of (slot_of r.0 0x43 nothing).reply) rows

abbrev said : Ranged → List ℕ
said rows = map (λ (r : Endpoint × ℕ). r.1) rows

-- The book: what reading some bytes yields.

abbrev kept : ℕ → ℕ → ℕ → ℕ → List Entry → Endpoint
kept role mask limit n es = started (book_with role mask limit n es)

-- the entry whose first parameter is p
abbrev numbered : ℕ → Entry
numbered p = record { p0 = p; p1 = 2; p2 = 3; p3 = 4; p4 = 5; form = 6; w = 0 }

abbrev books : Ranged
books =
    (kept 0 3 425 1 (profile 7 0 ∷ replicate 7 no_entry), 0)
    ∷ (kept 1 3 425 8 (map numbered (1 ∷ 2 ∷ 3 ∷ 4 ∷ 5 ∷ 6 ∷ 7 ∷ 8 ∷ [])), 0)
    ∷ (kept 2 3 425 1 (profile 7 0 ∷ replicate 7 no_entry), 13)
    ∷ (kept 0 4 425 1 (profile 7 0 ∷ replicate 7 no_entry), 13)
    ∷ (kept 0 3 424 1 (profile 7 0 ∷ replicate 7 no_entry), 13)
    ∷ (kept 0 3 425 0 (replicate 8 no_entry), 13)
    ∷ (kept 1 3 425 2 (profile 7 0 ∷ profile 6 0 ∷ replicate 6 no_entry), 13)
    ∷ (kept 0 3 425 1 (profile 7 8 ∷ replicate 7 no_entry), 13)
    ∷ (kept 0 3 425 1 (profile 8 0 ∷ replicate 7 no_entry), 0)
    ∷ (kept 0 2 425 1 (profile 8 0 ∷ replicate 7 no_entry), 0)
    ∷ (kept 0 1 425 1 (profile 8 0 ∷ replicate 7 no_entry), 13)
    ∷ (kept 0 3 425 1 (profile 7 0 ∷ profile 6 0 ∷ replicate 6 no_entry), 13)
    ∷ []

-- In the exchange.

abbrev in_slot : ℕ → ℕ → Endpoint
in_slot role slot = exchanging (book_of role 3 500 (profile 7 0 ∷ [])) slot 2 (Run 1 0) (six []) (six (3 ∷ [])) (Parameters 0)

-- on form 8, in slot 300, having the identifier
abbrev eights : ℕ → ℕ → ℕ → Sending → Endpoint
eights role mask version s = exchanging (book_of role mask 500 (profile 8 0 ∷ [])) 300 version (Run 1 0) (six []) (six (3 ∷ [])) s

-- in slot 300, with these nibbles in hand and values voted
abbrev originates : ℕ → ℕ → Awaited → List ℕ → List ℕ → Sending → Endpoint
originates mask version a nibbles values s = exchanging (book_of 0 mask 500 (profile 7 0 ∷ [])) 300 version a (six nibbles) (six values) s

abbrev answers : ℕ → ℕ → Awaited → List ℕ → List ℕ → Sending → Endpoint
answers mask version a nibbles values s = exchanging (book_of 1 mask 500 (profile 7 0 ∷ [])) 300 version a (six nibbles) (six values) s

abbrev counts : Ranged
counts =
    -- slot below L
    (in_slot 0 499, 0)
    ∷ (in_slot 0 500, 13)
    -- item awaited 0 to 5
    ∷ (originates 3 2 (Run 5 0) [] [] Done, 0)
    ∷ (originates 3 2 (Run 6 0) [] [] (Parameters 0), 13)
    ∷ (originates 3 2 (Group 5 0) [] [] Done, 0)
    ∷ (originates 3 2 (Group 6 0) [] [] (Parameters 0), 13)
    -- count of a run: below 16 for the identifier, below 4 for a parameter
    ∷ (answers 3 0 (Run 0 15) [] [] (Hail 16), 0)
    ∷ (answers 3 0 (Run 0 16) [] [] (Hail 16), 13)
    ∷ (answers 3 2 (Run 1 3) [] (3 ∷ []) Idle, 0)
    ∷ (answers 3 2 (Run 1 4) [] (3 ∷ []) Idle, 13)
    -- count of a group in hand below 6
    ∷ (answers 3 2 (Group 1 5) [] (3 ∷ []) Idle, 0)
    ∷ (answers 3 2 (Group 1 6) [] (3 ∷ []) Idle, 13)
    -- nibbles below 16; 0 past those in hand
    ∷ (answers 3 2 (Group 1 2) (15 ∷ 15 ∷ []) (3 ∷ []) Idle, 0)
    ∷ (answers 3 2 (Group 1 2) (16 ∷ 15 ∷ []) (3 ∷ []) Idle, 13)
    ∷ (answers 3 2 (Group 1 2) (15 ∷ 16 ∷ []) (3 ∷ []) Idle, 13)
    ∷ (answers 3 2 (Group 1 2) (15 ∷ 15 ∷ 1 ∷ []) (3 ∷ []) Idle, 13)
    ∷ (answers 3 2 (Group 1 5) (1 ∷ 1 ∷ 1 ∷ 1 ∷ 1 ∷ 1 ∷ []) (3 ∷ []) Idle, 13)
    ∷ (answers 3 2 (Run 1 0) (1 ∷ []) (3 ∷ []) Idle, 13)
    ∷ (originates 3 2 Nothing (1 ∷ []) [] (Parameters 0), 13)
    -- values 0 from the item awaited on
    ∷ (answers 3 2 (Run 2 0) [] (255 ∷ 255 ∷ []) Idle, 0)
    ∷ (answers 3 2 (Run 2 0) [] (255 ∷ 255 ∷ 1 ∷ []) Idle, 13)
    ∷ (answers 3 2 (Group 2 0) [] (255 ∷ 255 ∷ 1 ∷ []) Idle, 13)
    ∷ (answers 3 2 Nothing [] (255 ∷ 255 ∷ 255 ∷ 255 ∷ 255 ∷ 255 ∷ []) (Parameters 1), 0)
    -- version 0 before the identifier has come
    ∷ (answers 3 0 (Group 0 0) [] [] Idle, 0)
    ∷ (answers 3 1 (Group 0 0) [] [] Idle, 13)
    -- after it a bit of the mask
    ∷ (answers 3 1 (Run 1 0) [] (3 ∷ []) Idle, 0)
    ∷ (answers 3 2 (Run 1 0) [] (3 ∷ []) Idle, 0)
    ∷ (answers 3 3 (Run 1 0) [] (3 ∷ []) Idle, 13)
    ∷ (answers 3 0 (Run 1 0) [] (3 ∷ []) Idle, 13)
    ∷ (answers 1 1 (Run 1 0) [] (3 ∷ []) Idle, 0)
    ∷ (answers 1 2 (Run 1 0) [] (3 ∷ []) Idle, 13)
    ∷ (answers 2 1 (Run 1 0) [] (3 ∷ []) Idle, 13)
    ∷ (answers 2 2 (Run 1 0) [] (3 ∷ []) Idle, 0)
    -- of an originator on form 8 bit 1 alone, which is version 2
    ∷ (eights 0 3 2 (Mask 1), 0)
    ∷ (eights 0 3 1 (Mask 1), 13)
    ∷ (eights 0 2 2 (Mask 1), 0)
    ∷ (eights 0 3 0 (Mask 1), 0)
    ∷ (eights 1 3 2 Idle, 0)
    ∷ (eights 1 3 1 Idle, 0)
    ∷ (eights 1 3 0 Idle, 13)
    -- also 0 for an originator that has yet to send all of its 00 group
    ∷ (originates 3 0 (Run 1 0) [] (0 ∷ []) (Hail 5), 0)
    ∷ (originates 3 0 (Run 1 0) [] (0 ∷ []) (Mask 5), 0)
    ∷ (originates 3 3 (Run 1 0) [] (0 ∷ []) (Mask 5), 13)
    ∷ (originates 3 0 (Run 1 0) [] (0 ∷ []) (Parameters 0), 13)
    ∷ (originates 3 0 (Run 1 0) [] (0 ∷ []) Done, 13)
    ∷ []

-- What is sent goes by what is awaited.
abbrev sendings : Ranged
sendings =
    -- an originator sends Sdidle while it awaits the run of Sgvi
    (originates 3 0 (Run 0 15) [] [] Idle, 0)
    ∷ (originates 3 0 (Group 0 0) [] [] Idle, 13)
    ∷ (originates 3 2 (Run 1 0) [] [] Idle, 13)
    ∷ (originates 3 2 Nothing [] [] Idle, 13)
    -- Sgvi 1 to 16 once the run has come
    ∷ (originates 3 0 (Group 0 0) [] [] (Hail 0), 13)
    ∷ (originates 3 0 (Group 0 0) [] [] (Hail 1), 0)
    ∷ (originates 3 0 (Group 0 0) [] [] (Hail 16), 0)
    ∷ (originates 3 0 (Group 0 0) [] [] (Hail 17), 13)
    ∷ (originates 3 0 (Run 0 0) [] [] (Hail 1), 13)
    -- the mask, place 1 to 5, once the identifier has come
    ∷ (originates 3 2 (Run 1 0) [] [] (Mask 0), 13)
    ∷ (originates 3 2 (Run 1 0) [] [] (Mask 1), 0)
    ∷ (originates 3 2 (Run 1 0) [] [] (Mask 5), 0)
    ∷ (originates 3 2 (Run 1 0) [] [] (Mask 6), 13)
    ∷ (originates 3 0 (Group 0 0) [] [] (Mask 1), 13)
    -- the parameters, place below 190, once the identifier has come
    ∷ (originates 3 2 (Run 1 0) [] [] (Parameters 0), 0)
    ∷ (originates 3 2 (Run 1 0) [] [] (Parameters 189), 0)
    ∷ (originates 3 2 (Run 1 0) [] [] (Parameters 190), 13)
    ∷ (originates 3 0 (Group 0 0) [] [] (Parameters 0), 13)
    -- Sdidle, all being sent, once the identifier has come, until all has
    ∷ (originates 3 2 (Run 1 0) [] [] Done, 0)
    ∷ (originates 3 2 (Group 5 5) [] [] Done, 0)
    ∷ (originates 3 2 Nothing [] [] Done, 13)
    ∷ (originates 3 0 (Group 0 0) [] [] Done, 13)
    -- an answerer sends Sdidle while it awaits the identifier's group or a parameter
    ∷ (answers 3 0 (Group 0 0) [] [] Idle, 0)
    ∷ (answers 3 2 (Group 5 5) [] [] Idle, 0)
    ∷ (answers 3 0 (Run 0 0) [] [] Idle, 13)
    ∷ (answers 3 2 Nothing [] [] Idle, 13)
    -- Sgvi 0 to 16 while it awaits the run
    ∷ (answers 3 0 (Run 0 0) [] [] (Hail 0), 0)
    ∷ (answers 3 0 (Run 0 0) [] [] (Hail 16), 0)
    ∷ (answers 3 0 (Run 0 0) [] [] (Hail 17), 13)
    ∷ (answers 3 0 (Group 0 0) [] [] (Hail 16), 13)
    -- the mask, place below 6, while it awaits the identifier's group, of which fewer bytes have come than went
    ∷ (answers 3 0 (Group 0 0) [] [] (Mask 0), 13)
    ∷ (answers 3 0 (Group 0 0) [] [] (Mask 1), 0)
    ∷ (answers 3 0 (Group 0 1) [] [] (Mask 1), 13)
    ∷ (answers 3 0 (Group 0 4) [] [] (Mask 5), 0)
    ∷ (answers 3 0 (Group 0 5) [] [] (Mask 5), 13)
    ∷ (answers 3 0 (Group 0 0) [] [] (Mask 6), 13)
    ∷ (answers 3 0 (Run 0 0) [] [] (Mask 3), 13)
    ∷ (answers 3 2 (Group 1 0) [] [] (Mask 3), 13)
    ∷ (answers 3 2 Nothing [] [] (Mask 3), 13)
    -- the parameters, place 1 to 189, once all has come
    ∷ (answers 3 2 Nothing [] [] (Parameters 0), 13)
    ∷ (answers 3 2 Nothing [] [] (Parameters 1), 0)
    ∷ (answers 3 2 Nothing [] [] (Parameters 189), 0)
    ∷ (answers 3 2 Nothing [] [] (Parameters 190), 13)
    ∷ (answers 3 2 (Group 5 5) [] [] (Parameters 1), 13)
    -- and never Sdidle, all being sent
    ∷ (answers 3 2 Nothing [] [] Done, 13)
    ∷ (answers 3 2 (Run 1 0) [] [] Done, 13)
    ∷ []

-- Open.

-- since a slot, on a version and an entry
abbrev open_since : Book → ℕ → ℕ → ℕ → List ℕ → Outbound → Inbound → Endpoint
open_since b slot version entry nibbles o i =
    record { book = b; nibbles = six nibbles; values = replicate 6 255; phase = phase.Open slot version entry (record { outbound = o; inbound = i }) }

abbrev on_form : ℕ → ℕ → Outbound → Inbound → Endpoint
on_form form w o i = open_since (book_on 2 (profile form w)) 300 2 0 [] o i

-- so many of the first bytes have gone, a DH is due or none, and someone has a claim on the line
abbrev claimed : ℕ → Option ℕ → Claim → Outbound
claimed opening due c = outbound_of opening due c (signals 0 1 0 0 0) (signals 0 1 0 0 0)

abbrev opens : Ranged
opens =
    -- the slot of opening below L; the version a bit of the mask; the entry below n; nibbles 0; values any
    (open_since (book_on 3 (profile 6 0)) 499 2 0 [] (sent 16 None 0 0) idle_got, 0)
    ∷ (open_since (book_on 3 (profile 6 0)) 500 2 0 [] (sent 16 None 0 0) idle_got, 13)
    ∷ (open_since (book_on 3 (profile 6 0)) 300 1 0 [] (sent 16 None 0 0) idle_got, 0)
    ∷ (open_since (book_on 3 (profile 6 0)) 300 3 0 [] (sent 16 None 0 0) idle_got, 13)
    ∷ (open_since (book_on 3 (profile 6 0)) 300 0 0 [] (sent 16 None 0 0) idle_got, 13)
    ∷ (open_since (book_on 1 (profile 6 0)) 300 2 0 [] (sent 16 None 0 0) idle_got, 13)
    ∷ (open_since (book_of 1 3 500 (profile 7 0 ∷ numbered 1 ∷ [])) 300 2 1 [] (sent 16 None 0 0) idle_got, 0)
    ∷ (open_since (book_on 3 (profile 6 0)) 300 2 1 [] (sent 16 None 0 0) idle_got, 13)
    ∷ (open_since (book_on 3 (profile 6 0)) 300 2 0 (1 ∷ []) (sent 16 None 0 0) idle_got, 13)
    -- no open state has form 8 on version 1, of either role, and in whichever entry
    ∷ (open_since (book_on 3 (profile 8 0)) 300 2 0 [] (sent 16 None 0 0) idle_got, 0)
    ∷ (open_since (book_on 3 (profile 8 0)) 300 1 0 [] (sent 16 None 0 0) idle_got, 13)
    ∷ (open_since (book_on 3 (profile 7 0)) 300 1 0 [] (sent 16 None 0 0) idle_got, 0)
    ∷ (open_since (book_of 0 3 500 (profile 8 0 ∷ [])) 300 2 0 [] (sent 16 None 0 0) idle_got, 0)
    ∷ (open_since (book_of 0 3 500 (profile 8 0 ∷ [])) 300 1 0 [] (sent 16 None 0 0) idle_got, 13)
    ∷ (open_since (book_of 1 3 500 (numbered 1 ∷ profile 8 0 ∷ [])) 300 1 0 [] (sent 16 None 0 0) idle_got, 0)
    ∷ (open_since (book_of 1 3 500 (numbered 1 ∷ profile 8 0 ∷ [])) 300 1 1 [] (sent 16 None 0 0) idle_got, 13)
    ∷ (open_since (book_of 1 3 500 (numbered 1 ∷ profile 8 0 ∷ [])) 300 2 1 [] (sent 16 None 0 0) idle_got, 0)
    -- first bytes sent: at most 16, in forms 7 and 8 at most 18
    ∷ (on_form 0 8 (sent 16 None 0 0) idle_got, 0)
    ∷ (on_form 0 8 (sent 17 None 0 0) idle_got, 13)
    ∷ (on_form 6 0 (sent 17 None 0 0) idle_got, 13)
    ∷ (on_form 7 0 (sent 18 None 0 0) idle_got, 0)
    ∷ (on_form 7 0 (sent 19 None 0 0) idle_got, 13)
    ∷ (on_form 8 0 (sent 18 None 0 0) idle_got, 0)
    ∷ (on_form 8 0 (sent 19 None 0 0) idle_got, 13)
    -- high nibble due: in form 0 alone, after the 16 Sd, of a word of w bits
    ∷ (on_form 0 8 (sent 16 (Some 15) 0 0) idle_got, 0)
    ∷ (on_form 0 8 (sent 16 (Some 16) 0 0) idle_got, 13)
    ∷ (on_form 0 8 (sent 15 (Some 15) 0 0) idle_got, 13)
    ∷ (on_form 0 5 (sent 16 (Some 1) 0 0) idle_got, 0)
    ∷ (on_form 0 5 (sent 16 (Some 2) 0 0) idle_got, 13)
    ∷ (on_form 6 0 (sent 16 (Some 0) 0 0) idle_got, 13)
    ∷ (on_form 7 0 (sent 18 (Some 0) 0 0) idle_got, 13)
    -- BK of the last two Sd sent off, but in form 0
    ∷ (on_form 0 8 (sent 16 None 1 1) idle_got, 0)
    ∷ (on_form 6 0 (sent 16 None 1 0) idle_got, 13)
    ∷ (on_form 6 0 (sent 16 None 0 1) idle_got, 13)
    ∷ (on_form 8 0 (sent 16 None 1 0) idle_got, 13)
    -- their leads any
    ∷ (on_form 6 0 (outbound_of 16 None Free (signals 1 1 1 1 0) (signals 0 0 0 0 0)) idle_got, 0)
    ∷ (on_form 8 0 (outbound_of 0 None Free (signals 0 0 0 0 0) (signals 1 1 1 1 0)) idle_got, 0)
    -- a second Sd due, with any leads, or a unit owed the line: in forms 0 and 6 alone, after the 16 Sd, while no DH is due
    ∷ (on_form 0 8 (claimed 16 None (Second (leads 1 1 1 1))) idle_got, 0)
    ∷ (on_form 0 8 (claimed 15 None (Second (leads 1 1 1 1))) idle_got, 13)
    ∷ (on_form 0 8 (claimed 16 (Some 0) (Second (leads 1 1 1 1))) idle_got, 13)
    ∷ (on_form 0 8 (claimed 16 None Owed) idle_got, 0)
    ∷ (on_form 0 8 (claimed 15 None Owed) idle_got, 13)
    ∷ (on_form 0 8 (claimed 16 (Some 0) Owed) idle_got, 13)
    ∷ (on_form 6 0 (claimed 16 None (Second (leads 0 0 0 0))) idle_got, 0)
    ∷ (on_form 6 0 (claimed 15 None (Second (leads 0 0 0 0))) idle_got, 13)
    ∷ (on_form 6 0 (claimed 16 None Owed) idle_got, 0)
    ∷ (on_form 6 0 (claimed 15 None Owed) idle_got, 13)
    ∷ (on_form 7 0 (claimed 18 None Free) idle_got, 0)
    ∷ (on_form 7 0 (claimed 18 None (Second (leads 0 1 0 0))) idle_got, 13)
    ∷ (on_form 7 0 (claimed 18 None Owed) idle_got, 13)
    ∷ (on_form 8 0 (claimed 16 None (Second (leads 0 1 0 0))) idle_got, 13)
    ∷ (on_form 8 0 (claimed 18 None Owed) idle_got, 13)
    -- low nibble received in form 0 alone, below 16
    ∷ (on_form 0 8 (sent 16 None 0 0) (got (Some 15) 0 (signals 0 0 0 0 0) (signals 1 1 1 1 1)), 0)
    ∷ (on_form 0 8 (sent 16 None 0 0) (got (Some 16) 0 (signals 0 1 0 0 0) (signals 0 1 0 0 0)), 13)
    ∷ (on_form 6 0 (sent 16 None 0 0) (got (Some 0) 0 (signals 0 1 0 0 0) (signals 0 1 0 0 0)), 13)
    ∷ (on_form 7 0 (sent 18 None 0 0) (got (Some 0) 0 (signals 0 1 0 0 0) (signals 0 1 0 0 0)), 13)
    -- pair received 0 to 2, in forms 7 and 8 alone, else 0
    ∷ (on_form 7 0 (sent 18 None 0 0) (got None 2 (signals 1 1 1 1 1) (signals 0 0 0 0 0)), 0)
    ∷ (on_form 7 0 (sent 18 None 0 0) (got None 3 (signals 0 1 0 0 0) (signals 0 1 0 0 0)), 13)
    ∷ (on_form 8 0 (sent 18 None 0 0) (got None 3 (signals 0 1 0 0 0) (signals 0 1 0 0 0)), 13)
    ∷ (on_form 6 0 (sent 16 None 0 0) (got None 1 (signals 0 1 0 0 0) (signals 0 1 0 0 0)), 13)
    ∷ (on_form 0 8 (sent 16 None 0 0) (got None 1 (signals 0 1 0 0 0) (signals 0 1 0 0 0)), 13)
    ∷ []

-- Refused.

abbrev refused_with : ℕ → ℕ → List ℕ → Endpoint
refused_with number slot nibbles =
    record { book = book_on 3 (profile 6 0); nibbles = six nibbles; values = replicate 6 255; phase = phase.Refused number slot }

abbrev refusals : Ranged
refusals =
    -- number 21, 22 or 23; the slot below L; L - 1 for 23; nibbles 0; values any
    (refused_with 20 300 [], 13)
    ∷ (refused_with 21 300 [], 0)
    ∷ (refused_with 22 300 [], 0)
    ∷ (refused_with 23 300 [], 13)
    ∷ (refused_with 23 498 [], 13)
    ∷ (refused_with 23 499 [], 0)
    ∷ (refused_with 23 500 [], 13)
    ∷ (refused_with 24 499 [], 13)
    ∷ (refused_with 21 499 [], 0)
    ∷ (refused_with 21 500 [], 13)
    ∷ (refused_with 22 499 [], 0)
    ∷ (refused_with 22 500 [], 13)
    ∷ (refused_with 21 300 (1 ∷ []), 13)
    ∷ []

pub record RangesHold : Type 0 where
  pub kept : told books ≡ said books
  pub counted : told counts ≡ said counts
  pub sending : told sendings ≡ said sendings
  pub opened : told opens ≡ said opens
  pub refused : told refusals ≡ said refusals

ranges_hold : RangesHold
unfolding computing
ranges_hold = record { kept = refl; counted = refl; sending = refl; opened = refl; refused = refl }

-- All of these.
pub record RefusalFigures : Type 0 where
  pub out_of_range : defined twelve ≡ written twelve
  pub given_back : GivenBack
  pub ranges : RangesHold

pub refusal_figures : RefusalFigures
refusal_figures = record { out_of_range = twelve_holds; given_back = given_back; ranges = ranges_hold }
