-- The ranges behind refusal 13: a count, position or value outside the range that its phase, role and book allow. Assumes nothing.
use Rattle.std.specs.Prelude.{Bool, true, false, cond, not, ◌&&◌, ◌||◌, List, ℕ, ◌+◌, ◌-◌, ◌*◌, eqb, ltb, leb, drop, Option, Some, None}
use Rattle.ground.specs.Digits.{bit, all_below}
use Rattle.book.specs.declared.Book.{Book}
use Rattle.book.specs.Kept.{book_ok}
use Rattle.channel.specs.Forms.{word_fits}
use Rattle.protocol.specs.Lengths.{identifier_run, group_length, run_length, all_parameter_bytes}
use Rattle.protocol.specs.Collecting.{item_of, awaits_hail, has_identifier, has_all}
use Rattle.protocol.specs.Exchange.{originates, entry_of, identifier, left_out}
use Rattle.protocol.specs.Opened.{shape_of, is_word, has_pair, opening_sd, opening_bytes}
use Rattle.protocol.specs.declared.Awaited.{Awaited}
use Rattle.protocol.specs.declared.Awaited.TheVariants.{Run, Group, Nothing}
use Rattle.protocol.specs.declared.Sending.{Sending}
use Rattle.protocol.specs.declared.Sending.TheVariants.{Idle, Hail, Mask, Parameters, Done}
use Rattle.protocol.specs.declared.Shape.{Shape}
use Rattle.protocol.specs.declared.Shape.TheVariants as shape
use Rattle.protocol.specs.declared.Claim.{Claim}
use Rattle.protocol.specs.declared.Claim.TheVariants.{Free, Second, Owed}
use Rattle.protocol.specs.declared.Outbound.{Outbound}
use Rattle.protocol.specs.declared.Inbound.{Inbound}
use Rattle.protocol.specs.declared.Line.{Line}
use Rattle.protocol.specs.declared.Phase.{Phase}
use Rattle.protocol.specs.declared.Phase.TheVariants as phase
use Rattle.protocol.specs.declared.Endpoint.{Endpoint}

abbrev pub all_zero : List ℕ → Bool
all_zero xs = all_below 1 xs

-- a run is shorter than the one awaited; a group in hand is not whole
unfoldable pub awaited_in : Book → Awaited → Bool
awaited_in b (Run item count) = leb item 5 && ltb count (run_length b item)
awaited_in b (Group item count) = leb item 5 && ltb count group_length
awaited_in b Nothing = true

-- how many nibbles are in hand
abbrev pub in_hand : Awaited → ℕ
in_hand (Run item count) = 0
in_hand (Group item count) = count
in_hand Nothing = 0

-- a nibble is of 4 bits; zeros stand past the nibbles in hand, and past the values voted
unfoldable pub nibbles_in : Awaited → List ℕ → Bool
nibbles_in a nibbles = all_below 16 nibbles && all_zero (drop (in_hand a) nibbles)

unfoldable pub values_in : Awaited → List ℕ → Bool
values_in a values = all_zero (drop (item_of a) values)

-- while an answerer sends its mask, the first group that it may be hearing came no earlier than its own went
abbrev pub behind : ℕ → Awaited → Bool
behind i (Run item count) = false
behind i (Group item count) = eqb item 0 && ltb count i
behind i Nothing = false

-- what an answerer sends, by what it awaits
unfoldable pub answering_in : Book → Awaited → Sending → Bool
answering_in b a Idle = not (awaits_hail a) && not (has_all a)
answering_in b a (Hail n) = awaits_hail a && leb n identifier_run
answering_in b a (Mask i) = behind i a && ltb i group_length
answering_in b a (Parameters i) = has_all a && leb 1 i && ltb i (all_parameter_bytes b)
answering_in b a Done = false

-- what an originator sends, by what it awaits
unfoldable pub originating_in : Book → Awaited → Sending → Bool
originating_in b a Idle = awaits_hail a
originating_in b a (Hail n) = not (awaits_hail a) && leb 1 n && leb n identifier_run
originating_in b a (Mask i) = has_identifier a && leb 1 i && ltb i group_length
originating_in b a (Parameters i) = has_identifier a && ltb i (all_parameter_bytes b)
originating_in b a Done = has_identifier a && not (has_all a)

abbrev pub sending_in : Book → Awaited → Sending → Bool
sending_in b a s = cond (originates b) (originating_in b a s) (answering_in b a s)

-- a version that the identifier can have settled
unfoldable pub is_version : Book → ℕ → Bool
is_version b version = leb 1 version && leb version 8 && eqb (bit (version - 1) (identifier b)) 1

-- an originator that shares no version has yet to send its mask of 00
abbrev pub may_lack : Book → Sending → Bool
may_lack b Idle = false
may_lack b (Hail n) = originates b
may_lack b (Mask i) = originates b
may_lack b (Parameters i) = false
may_lack b Done = false

unfoldable pub version_in : Book → Awaited → Sending → ℕ → Bool
version_in b a s version =
    cond (has_identifier a) (is_version b version || (may_lack b s && eqb version 0)) (eqb version 0)

-- the high nibble due is of a word of w bits, after the first bytes; a received low nibble is any
abbrev pub due_in : Shape → ℕ → Option ℕ → Bool
due_in (shape.Word w) opening None = true
due_in (shape.Word w) opening (Some high) = leb opening_sd opening && word_fits w (16 * high)
due_in (shape.Unit f) opening None = true
due_in (shape.Unit f) opening (Some high) = false

abbrev pub half_in : Shape → Option ℕ → Bool
half_in s None = true
half_in s (Some low) = is_word s && ltb low 16

-- a second Sd is due, or a unit owed the line, in forms 0 and 6 alone, after the 16 Sd, and while no DH is due
abbrev pub none_due : Option ℕ → Bool
none_due None = true
none_due (Some high) = false

abbrev pub claim_in : Shape → ℕ → Option ℕ → Claim → Bool
claim_in s opening due Free = true
claim_in s opening due (Second leads) = not (has_pair s) && leb opening_sd opening && none_due due
claim_in s opening due Owed = not (has_pair s) && leb opening_sd opening && none_due due

-- BK of the last two Sd sent is off, but in form 0; their leads are any
unfoldable pub outbound_in : Shape → Outbound → Bool
outbound_in s o =
    leb o.opening (opening_bytes s) && due_in s o.opening o.due && claim_in s o.opening o.due o.claim
    && (is_word s || not (o.last.bk || o.before.bk))

unfoldable pub inbound_in : Shape → Inbound → Bool
inbound_in s i = half_in s i.half && leb i.pair 2 && (has_pair s || eqb i.pair 0)

-- an end that refuses 23 does so in the last slot
unfoldable pub refused_in : Book → ℕ → ℕ → Bool
refused_in b number slot = ltb slot b.limit && (eqb number 21 || eqb number 22 || (eqb number 23 && eqb (slot + 1) b.limit))

-- an end in the exchange, but for what it has collected; an open end, but for that: no form 8 entry on version 1
abbrev pub exchange_in : Book → ℕ → ℕ → Awaited → Sending → Bool
exchange_in b slot version a s = ltb slot b.limit && awaited_in b a && sending_in b a s && version_in b a s version

abbrev pub open_in : Book → ℕ → ℕ → ℕ → Line → Bool
open_in b slot version entry line =
    ltb slot b.limit && is_version b version && ltb entry b.n && not (left_out version (entry_of b entry))
    && outbound_in (shape_of (entry_of b entry) version) line.outbound
    && inbound_in (shape_of (entry_of b entry) version) line.inbound

unfoldable pub phase_in : Book → List ℕ → List ℕ → Phase → Bool
phase_in b nibbles values (phase.Exchanging slot version a s) =
    exchange_in b slot version a s && nibbles_in a nibbles && values_in a values
phase_in b nibbles values (phase.Open slot version entry line) = open_in b slot version entry line && all_zero nibbles
phase_in b nibbles values (phase.Refused number slot) = refused_in b number slot && all_zero nibbles

-- the kept book is one that the book checks would not refuse, and the rest is in its range
unfoldable pub well_formed : Endpoint → Bool
well_formed e = book_ok e.book && phase_in e.book e.nibbles e.values e.phase
