-- The exchange, answering and originating, but for the clock. Assumes nothing.
use Rattle.std.specs.Prelude.{Bool, true, false, cond, not, ◌&&◌, List, ℕ, zero, suc, ◌+◌, ◌*◌, min, eqb, ltb, leb, get_or, drop, replicate}
use Rattle.std.specs.Prelude.{Option, Some, None}
use Rattle.ground.specs.Digits.{bit}
use Rattle.book.specs.declared.Entry.{Entry}
use Rattle.book.specs.declared.Book.{Book}
use Rattle.book.specs.Book.{originating, no_entry, params_of}
use Rattle.channel.specs.declared.kind.Kind.{Kind}
use Rattle.channel.specs.Bytes.{sgvi, sdidle}
use Rattle.channel.specs.Versions.{highest}
use Rattle.protocol.specs.Lengths.{identifier_run, group_length, all_parameter_bytes}
use Rattle.protocol.specs.Collecting.{hear, awaits_hail, has_identifier, has_all, no_nibbles}
use Rattle.protocol.specs.Sent.{Sent, Alone, Part, parameter_sent}
use Rattle.protocol.specs.declared.Awaited.TheVariants.{Run}
use Rattle.protocol.specs.declared.Hearing.{Hearing}
use Rattle.protocol.specs.declared.Exchange.{Exchange}
use Rattle.protocol.specs.declared.Sending.{Sending}
use Rattle.protocol.specs.declared.Sending.TheVariants.{Idle, Hail, Mask, Parameters, Done}
use Rattle.protocol.specs.declared.Fate.{Fate}
use Rattle.protocol.specs.declared.Fate.TheVariants.{Stays, OpensHearing, OpensSending, Refuses}

abbrev pub originates : Book → Bool
originates b = eqb b.role originating

abbrev pub entry_of : Book → ℕ → Entry
entry_of b i = get_or b.entries i no_entry

-- an originator whose entry has form 8
abbrev pub calls_on_form8 : Book → Bool
calls_on_form8 b = originates b && eqb (entry_of b 0).form 8

-- bit 1 of a mask alone
abbrev pub bit1_alone : ℕ → ℕ
bit1_alone mask = 2 * bit 1 mask

-- what an end sends as its identifier, and settles the version with: its mask; of an originator whose entry has form 8, bit 1 of its mask
-- alone
unfoldable pub identifier : Book → ℕ
identifier b = cond (calls_on_form8 b) (bit1_alone b.mask) b.mask

-- nothing has come yet; an answerer sends Sgvi, an originator Sdidle
unfoldable pub first_exchange : Book → Exchange
first_exchange b =
    record {
      hearing = record { awaited = Run 0 0; nibbles = no_nibbles; values = replicate 6 0 };
      version = 0;
      sending = cond (originates b) Idle (Hail 0);
    }

-- p0 to p4 of the other end, after its identifier
abbrev pub heard_params : Hearing → List ℕ
heard_params h = drop 1 h.values

-- the entry's five parameters are the values
abbrev pub has_params : Entry → List ℕ → Bool
has_params e values =
    eqb e.p0 (get_or values 0 0)
    && eqb e.p1 (get_or values 1 0)
    && eqb e.p2 (get_or values 2 0)
    && eqb e.p3 (get_or values 3 0)
    && eqb e.p4 (get_or values 4 0)

-- on version 1 a form 8 entry is left out
abbrev pub left_out : ℕ → Entry → Bool
left_out version e = eqb version 1 && eqb e.form 8

-- on a version an entry is matched by its parameters, unless it is left out
abbrev pub matches : ℕ → Entry → List ℕ → Bool
matches version e values = not (left_out version e) && has_params e values

-- the entry that is matched among the first n
unfoldable pub match_in : ℕ → List Entry → List ℕ → ℕ → Option ℕ
match_in version entries values zero = None
match_in version entries values (suc i) =
    cond (matches version (get_or entries i no_entry) values) (Some i) (match_in version entries values i)

-- the entry that has the other end's parameters, on the version settled
abbrev pub matched : Book → ℕ → Hearing → Option ℕ
matched b version h = match_in version b.entries (heard_params h) b.n

-- The byte acts.

-- the identifier is voted in this slot
abbrev pub settles : Hearing → Hearing → Bool
settles before after = not (has_identifier before.awaited) && has_identifier after.awaited

-- on the other's identifier the version is settled
unfoldable pub acted : Book → Exchange → Kind → Exchange
acted b x k =
    let h = hear b x.hearing k in
    record {
      hearing = h;
      version = cond (settles x.hearing h) (highest (identifier b) (get_or h.values 0 0)) x.version;
      sending = x.sending;
    }

abbrev pub all_sent : Sending → Bool
all_sent Idle = false
all_sent (Hail n) = false
all_sent (Mask i) = false
all_sent (Parameters i) = false
all_sent Done = true

-- originating: opens if all five are equal, else refuses 22
abbrev pub compared : Book → Hearing → Fate → Fate
compared b h opens = cond (has_params (entry_of b 0) (heard_params h)) opens (Refuses 22)

-- what the received byte brings about. Answering: no version, 21. Originating: its own all sent and the other's all received
unfoldable pub fate_heard : Book → Exchange → Exchange → Fate
fate_heard b x y =
    cond (originates b)
    (cond (all_sent y.sending && has_all y.hearing.awaited) (compared b y.hearing (OpensHearing 0)) Stays)
    (cond (settles x.hearing y.hearing && eqb y.version 0) (Refuses 21) Stays)

-- The byte to send is chosen.

-- Originating: Sdidle until 16 contiguous Sgvi have come, then Sgvi; from the slot that settles the version, but after at least 16 Sgvi
-- sent, the identifier
unfoldable pub chosen_originating : Exchange → Sending → Sending
chosen_originating y Idle = cond (awaits_hail y.hearing.awaited) Idle (Hail 0)
chosen_originating y (Hail n) = cond (has_identifier y.hearing.awaited && leb identifier_run n) (Mask 0) (Hail n)
chosen_originating y (Mask i) = Mask i
chosen_originating y (Parameters i) = Parameters i
chosen_originating y Done = Done

-- Answering: Sgvi until 16 contiguous Sgvi have come, from that slot the identifier, then Sdidle; from the slot that completes p4 the
-- parameters
unfoldable pub chosen_answering : Exchange → Sending → Sending
chosen_answering y Idle = cond (has_all y.hearing.awaited) (Parameters 0) Idle
chosen_answering y (Hail n) = cond (awaits_hail y.hearing.awaited) (Hail n) (Mask 0)
chosen_answering y (Mask i) = Mask i
chosen_answering y (Parameters i) = Parameters i
chosen_answering y Done = Done

abbrev pub chosen : Book → Exchange → Sending
chosen b y = cond (originates b) (chosen_originating y y.sending) (chosen_answering y y.sending)

-- the own identifier, or 00 from an originator if no version is shared
abbrev pub mask_sent : Book → ℕ → ℕ
mask_sent b version = cond (originates b && eqb version 0) 0 (identifier b)

-- the originator's values if some entry equals them, else those of entry 0; an originator's are those of entry 0
abbrev pub answered : Option ℕ → List ℕ → List ℕ → List ℕ
answered (Some i) theirs own = theirs
answered None theirs own = own

abbrev pub values_sent : Book → ℕ → Hearing → List ℕ
values_sent b version h =
    cond (originates b) (params_of (entry_of b 0)) (answered (matched b version h) (heard_params h) (params_of (entry_of b 0)))

unfoldable pub sent_as : Book → Exchange → Sending → Sent
sent_as b y Idle = Alone sdidle
sent_as b y (Hail n) = Alone sgvi
sent_as b y (Mask i) = Part i (mask_sent b y.version)
sent_as b y (Parameters i) = parameter_sent b (values_sent b y.version y.hearing) i
sent_as b y Done = Alone sdidle

-- what is to be sent after that byte; after its identifier an originator sends its parameters, an answerer Sdidle
unfoldable pub advanced : Book → Sending → Sending
advanced b Idle = Idle
advanced b (Hail n) = Hail (min (n + 1) identifier_run)
advanced b (Mask i) = cond (ltb (i + 1) group_length) (Mask (i + 1)) (cond (originates b) (Parameters 0) Idle)
advanced b (Parameters i) = cond (ltb (i + 1) (all_parameter_bytes b)) (Parameters (i + 1)) Done
advanced b Done = Done

-- the group's sixth byte; the own last byte
abbrev pub last_of_mask : Sending → Bool
last_of_mask Idle = false
last_of_mask (Hail n) = false
last_of_mask (Mask i) = leb group_length (i + 1)
last_of_mask (Parameters i) = false
last_of_mask Done = false

abbrev pub last_of_all : Book → Sending → Bool
last_of_all b Idle = false
last_of_all b (Hail n) = false
last_of_all b (Mask i) = false
last_of_all b (Parameters i) = leb (all_parameter_bytes b) (i + 1)
last_of_all b Done = false

-- with the last byte sent an answerer opens if some entry equals the originator's values, else refuses 22
abbrev pub opens_on : Option ℕ → Fate
opens_on (Some i) = OpensSending i
opens_on None = Refuses 22

-- what the byte sent brings about. Originating: 21 with the sixth byte of 00; all sent and all received
unfoldable pub fate_sent : Book → Exchange → Sending → Fate
fate_sent b y s =
    cond (originates b)
    (cond (last_of_mask s && eqb y.version 0) (Refuses 21)
    (cond (last_of_all b s && has_all y.hearing.awaited) (compared b y.hearing (OpensSending 0)) Stays))
    (cond (last_of_all b s) (opens_on (matched b y.version y.hearing)) Stays)

-- One slot of the exchange.

pub record Turn : Type 0 where
  pub exchange : Exchange
  pub fate : Fate
  pub sent : Sent

unfoldable pub sends : Book → Exchange → Sending → Turn
sends b y s =
    record {
      exchange = record { hearing = y.hearing; version = y.version; sending = advanced b s };
      fate = fate_sent b y s;
      sent = sent_as b y s;
    }

-- where the received byte ends the exchange, an end that refuses sends Sdidle, and one that opens sends as an open end
abbrev pub turn_by : Book → Exchange → Fate → Turn
turn_by b y Stays = sends b y (chosen b y)
turn_by b y (OpensHearing i) = record { exchange = y; fate = OpensHearing i; sent = Alone sdidle }
turn_by b y (OpensSending i) = record { exchange = y; fate = OpensSending i; sent = Alone sdidle }
turn_by b y (Refuses n) = record { exchange = y; fate = Refuses n; sent = Alone sdidle }

unfoldable pub turn : Book → Exchange → Kind → Turn
turn b x k = turn_by b (acted b x k) (fate_heard b x (acted b x k))
