-- The answers of one end in document 01's numbers and values: each case of an answer, and what a state gives. Assumes nothing.
use Rattle.std.specs.Prelude.{cond, List, [], ◌∷◌, ◌++◌, ℕ, eqb, Option, Some, None, Ok, Err}
use Rattle.book.specs.declared.Entry.{Entry}
use Rattle.channel.specs.Bytes.{bit_of}
use Rattle.channel.specs.Kinds.{kind_of}
use Rattle.channel.specs.Forms.{unit_in, is_data, word_of}
use Rattle.channel.specs.declared.kind.Kind.{Kind}
use Rattle.channel.specs.declared.kind.Kind.TheVariants.{Sgvi, Sgp, Sgr, Dl, Dh, Sd, Other}
use Rattle.protocol.specs.Sent.{byte_sent}
use Rattle.protocol.specs.Exchange.{entry_of}
use Rattle.protocol.specs.Opened.{pair_form}
use Rattle.protocol.specs.Ranges.{well_formed}
use Rattle.protocol.specs.Slot.{Step, step_of, offer_allowed, Reply, refusal_number}
use Rattle.protocol.specs.declared.Shape.{Shape}
use Rattle.protocol.specs.declared.Shape.TheVariants as shape
use Rattle.protocol.specs.declared.Signals.{Signals}
use Rattle.protocol.specs.declared.Inbound.{Inbound}
use Rattle.protocol.specs.declared.Phase.{Phase}
use Rattle.protocol.specs.declared.Phase.TheVariants.{Exchanging, Open, Refused}
use Rattle.protocol.specs.declared.Endpoint.{Endpoint}
use Rattle.protocol.specs.declared.Drive.{Drive}
use Rattle.protocol.specs.declared.Outcome.{Outcome}
use Rattle.protocol.specs.declared.Outcome.TheVariants as outcome

-- Each case of an answer.

-- the unit, or nothing
abbrev pub says_delivered : Option ℕ → List ℕ
says_delivered None = []
says_delivered (Some u) = u ∷ []

-- an open end: 0, the version, the entry with its five parameters, the slot, leads s0 to s3 and BK
abbrev pub open_says : ℕ → Entry → ℕ → Signals → List ℕ
open_says version p slot s =
    0 ∷ version ∷ p.p0 ∷ p.p1 ∷ p.p2 ∷ p.p3 ∷ p.p4 ∷ p.form ∷ p.w ∷ slot
    ∷ bit_of s.leads.s0 ∷ bit_of s.leads.s1 ∷ bit_of s.leads.s2 ∷ bit_of s.leads.s3 ∷ bit_of s.bk ∷ []

-- how a call ends: open, or its number 21, 22 or 23 and the slot; nothing yet in the exchange
abbrev pub says_outcome : Outcome → List ℕ
says_outcome outcome.Exchanging = []
says_outcome (outcome.Open version p slot s) = open_says version p slot s
says_outcome (outcome.Refused number slot) = number ∷ slot ∷ []

-- 12 or 13 alone; or 0, the byte sent, what is delivered, whether the unit is taken, and where the end stands
abbrev pub says_reply : Reply → List ℕ
says_reply (Err refusal) = refusal_number refusal ∷ []
says_reply (Ok passed) =
    0 ∷ passed.sent.0 ∷ (says_delivered passed.delivered ++ (bit_of passed.taken ∷ says_outcome passed.outcome))

-- What a state gives.

-- a word of form 0: a DL then at once a DH
abbrev pub word_in : ℕ → Kind → Option ℕ → List ℕ
word_in w (Dh high) (Some low) = word_of w low high ∷ []
word_in w (Dh high) None = []
word_in w (Dl x) half = []
word_in w (Sd s bk) half = []
word_in w Sgvi half = []
word_in w (Sgp k) half = []
word_in w Sgr half = []
word_in w Other half = []

-- form 0, unless BK stands on; forms 7 and 8 after the pair; form 6 a byte with B7 0
unfoldable pub delivers_of : Shape → Inbound → ℕ → List ℕ
delivers_of (shape.Word w) i b = cond i.standing.bk [] (word_in w (kind_of b) i.half)
delivers_of (shape.Unit f) i b =
    cond (cond (pair_form f) (eqb i.pair 2) (is_data f b)) (unit_in f b ∷ []) []

unfoldable pub stands_in : Endpoint → Phase → List ℕ
stands_in e (Exchanging slot version a s) = []
stands_in e (Open slot version i line) = open_says version (entry_of e.book i) slot line.inbound.standing
stands_in e (Refused number slot) = number ∷ slot ∷ []

abbrev pub step_says : Step → List ℕ
step_says s =
    0 ∷ byte_sent s.sent ∷ (says_delivered s.delivered ++ (bit_of s.taken ∷ stands_in s.state s.state.phase))

-- 13 first, then 12, then the slot
unfoldable pub slot_says : Endpoint → ℕ → Drive → List ℕ
slot_says e heard g =
    cond (well_formed e) (cond (offer_allowed e g e.phase) (step_says (step_of e heard g)) (12 ∷ [])) (13 ∷ [])
