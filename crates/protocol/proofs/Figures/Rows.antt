-- How a figure is written and run: an end, then slot by slot what it hears and is given, and beside it what document 01 says of that slot.
-- Assumes nothing.
use Rattle.std.specs.Prelude.{Option, Some, None}
use mathlib.Core.Bool.{Bool, false}
use mathlib.Core.List.{List, [], ◌∷◌, ◌++◌, map}
use Prim.Native.Nat.{ℕ, ◌-◌}
use lib.Dec.{eqb}
use lib.ListN.{length, replicate}
use Rattle.book.specs.declared.Entry.{Entry}
use Rattle.book.specs.declared.Book.{Book}
use Rattle.book.specs.Book.{no_entry, book_with}
use Rattle.channel.specs.Bytes.{byte}
use Rattle.channel.specs.declared.byte.Leads.{Leads}
use Rattle.protocol.specs.Slot.{slot_of, Reply, passed_with}
use Rattle.protocol.specs.Opened.{drive_with, outbound_of, inbound_of}
use Rattle.protocol.specs.declared.Awaited.{Awaited}
use Rattle.protocol.specs.declared.Sending.{Sending}
use Rattle.protocol.specs.declared.Signals.{Signals}
use Rattle.protocol.specs.declared.Claim.TheVariants.{Free}
use Rattle.protocol.specs.declared.Outbound.{Outbound}
use Rattle.protocol.specs.declared.Inbound.{Inbound}
use Rattle.protocol.specs.declared.Phase.TheVariants as phase
use Rattle.protocol.specs.declared.Endpoint.{Endpoint}
use Rattle.protocol.specs.declared.Drive.{Drive}
use Rattle.protocol.specs.declared.Outcome.{Outcome}
use Rattle.protocol.specs.declared.Outcome.TheVariants as outcome

-- Books.

-- the five parameters A1 B2 C3 D4 E5; their groups go as 15 AD, 25 BD, 35 CD, 45 DD and 55 ED, three times each
abbrev pub profile : ℕ → ℕ → Entry
profile form w = record { p0 = 0xA1; p1 = 0xB2; p2 = 0xC3; p3 = 0xD4; p4 = 0xE5; form = form; w = w }

abbrev pub book_of : ℕ → ℕ → ℕ → List Entry → Book
book_of role mask limit es = book_with role mask limit (length es) (es ++ replicate (8 - length es) no_entry)

-- What is given, and what is shown: s3 s2 s1 s0, then BK or the break flag.

abbrev pub on : ℕ → Bool
on digit = eqb digit 1

abbrev pub leads : ℕ → ℕ → ℕ → ℕ → Leads
leads s3 s2 s1 s0 = record { s0 = on s0; s1 = on s1; s2 = on s2; s3 = on s3 }

abbrev pub signals : ℕ → ℕ → ℕ → ℕ → ℕ → Signals
signals s3 s2 s1 s0 bk = record { leads = leads s3 s2 s1 s0; bk = on bk }

-- leads 0100, the flag off, no unit offered
abbrev pub nothing : Drive
nothing = drive_with (leads 0 1 0 0) false None

abbrev pub offers : ℕ → Drive
offers u = drive_with (leads 0 1 0 0) false (Some u)

-- A slot: the byte heard and what is given, and the reply.
pub record Slot : Type 0 where
  pub heard : ℕ
  pub given : Drive
  pub reply : Reply

-- a row: an end, and its next slots
pub record Row : Type 0 where
  pub from : Endpoint
  pub slots : List Slot

abbrev pub row : Endpoint → List Slot → Row
row e slots = record { from = e; slots = slots }

-- what the definitions reply
abbrev pub replies : Endpoint → List Slot → List Reply
replies e [] = []
replies e (s ∷ rest) = let a = slot_of e s.heard s.given in a.reply ∷ replies a.state rest

abbrev pub defined : List Row → List (List Reply)
defined rows = map (λ (r : Row). replies r.from r.slots) rows

-- what is written in the rows
abbrev pub written : List Row → List (List Reply)
written rows = map (λ (r : Row). map (λ (s : Slot). s.reply) r.slots) rows

-- In the exchange: nothing is delivered and nothing taken.

abbrev pub passes : ℕ → Drive → ℕ → Outcome → Slot
passes heard given sent stands =
    record { heard = heard; given = given; reply = passed_with (byte sent) None false stands }

-- a slot that hears a byte and sends one, and after which the end is still in the exchange
abbrev pub slot : ℕ → ℕ → Slot
slot heard sent = passes heard nothing sent outcome.Exchanging

-- no slot is so: none sends 256
abbrev pub never : Slot
never = passes 0 nothing 256 outcome.Exchanging

-- slots that hear these bytes and send these, as many
abbrev pub hears : List ℕ → List ℕ → List Slot
hears [] [] = []
hears [] (s ∷ ss) = never ∷ []
hears (h ∷ hs) [] = never ∷ []
hears (h ∷ hs) (s ∷ ss) = slot h s ∷ hears hs ss

-- slots that hear these bytes and send one byte throughout
abbrev pub hears_all : List ℕ → ℕ → List Slot
hears_all hs sent = hears hs (replicate (length hs) sent)

-- a group: three DL DH pairs
abbrev pub group : ℕ → ℕ → List ℕ
group low high = low ∷ high ∷ low ∷ high ∷ low ∷ high ∷ []

-- an end in the exchange before a slot: the version settled, what is awaited, the nibbles in hand and the values voted, what is sent
abbrev pub exchanging : Book → ℕ → ℕ → Awaited → List ℕ → List ℕ → Sending → Endpoint
exchanging b slot version a nibbles values s =
    record { book = b; nibbles = nibbles; values = values; phase = phase.Exchanging slot version a s }

-- the nibbles and the values with zeros past them
abbrev pub six : List ℕ → List ℕ
six xs = xs ++ replicate (6 - length xs) 0

-- Open.

abbrev pub unit : List ℕ → Option ℕ
unit [] = None
unit (u ∷ us) = Some u

-- an end that opened in slot 300 on the book's first entry
abbrev pub opened : Book → ℕ → Outbound → Inbound → Endpoint
opened b version o i =
    record {
      book = b;
      nibbles = replicate 6 0;
      values = 3 ∷ 0xA1 ∷ 0xB2 ∷ 0xC3 ∷ 0xD4 ∷ 0xE5 ∷ [];
      phase = phase.Open 300 version 0 (record { outbound = o; inbound = i });
    }

-- so many of the first bytes have gone; a DH is due or not, and the last two Sd had leads 0100 and these BK
abbrev pub sent : ℕ → Option ℕ → ℕ → ℕ → Outbound
sent opening due bk1 bk2 = outbound_of opening due Free (signals 0 1 0 0 bk1) (signals 0 1 0 0 bk2)

abbrev pub got : Option ℕ → ℕ → Signals → Signals → Inbound
got half pair last standing = inbound_of half pair last standing

-- as if two Sdidle had come
abbrev pub idle_got : Inbound
idle_got = got None 0 (signals 0 1 0 0 0) (signals 0 1 0 0 0)

-- a slot of an end open on this version and profile: what is sent, delivered and taken, and the leads and BK shown
abbrev pub open_slot : ℕ → Entry → ℕ → Drive → ℕ → List ℕ → Bool → Signals → Slot
open_slot version entry heard given sent units taken shown =
    record { heard = heard; given = given; reply = passed_with (byte sent) (unit units) taken (outcome.Open version entry 300 shown) }
