-- One slot of one end. Assumes nothing.
use Rattle.std.specs.Prelude.{Bool, true, false, cond, ◌&&◌, ℕ, ◌+◌, ltb, Option, Some, None, Result, Ok, Err}
use Rattle.book.specs.declared.Book.{Book}
use Rattle.book.specs.declared.BookRead.{BookRead}
use Rattle.channel.specs.declared.byte.ChannelByte.{ChannelByte}
use Rattle.channel.specs.Bytes.{byte, sdidle}
use Rattle.channel.specs.Kinds.{kind_of}
use Rattle.protocol.specs.Collecting.{no_nibbles}
use Rattle.protocol.specs.Sent.{Sent, Silence, Alone, byte_sent}
use Rattle.protocol.specs.Exchange.{Turn, turn, first_exchange, entry_of}
use Rattle.protocol.specs.Opened.{shape_of, has_unit, fresh_line, writing, reading}
use Rattle.protocol.specs.Ranges.{well_formed}
use Rattle.protocol.specs.declared.Awaited.{Awaited}
use Rattle.protocol.specs.declared.Sending.{Sending}
use Rattle.protocol.specs.declared.Exchange.{Exchange}
use Rattle.protocol.specs.declared.Fate.{Fate}
use Rattle.protocol.specs.declared.Fate.TheVariants.{Stays, OpensHearing, OpensSending, Refuses}
use Rattle.protocol.specs.declared.Line.{Line}
use Rattle.protocol.specs.declared.Phase.{Phase}
use Rattle.protocol.specs.declared.Phase.TheVariants.{Exchanging, Open, Refused}
use Rattle.protocol.specs.declared.Endpoint.{Endpoint}
use Rattle.protocol.specs.declared.Drive.{Drive}
use Rattle.protocol.specs.declared.Outcome.{Outcome}
use Rattle.protocol.specs.declared.Outcome.TheVariants as outcome
use Rattle.protocol.specs.declared.Passed.{Passed}
use Rattle.protocol.specs.declared.SlotRefusal.{SlotRefusal}
use Rattle.protocol.specs.declared.SlotRefusal.TheVariants.{UnitOutOfRange, OutsideRanges}
use Rattle.protocol.specs.declared.SlotAnswer.{SlotAnswer}
use Rattle.protocol.specs.declared.Start.{Start}

-- An end in the exchange, with its state but for the clock.

abbrev pub exchange_of : Endpoint → ℕ → Awaited → Sending → Exchange
exchange_of e version a s =
    record { hearing = record { awaited = a; nibbles = e.nibbles; values = e.values }; version = version; sending = s }

abbrev pub exchanging : Book → ℕ → Exchange → Endpoint
exchanging b slot x =
    record {
      book = b;
      nibbles = x.hearing.nibbles;
      values = x.hearing.values;
      phase = Exchanging slot x.version x.hearing.awaited x.sending;
    }

-- an end that has concluded keeps the values that were voted
abbrev pub concluded : Book → Exchange → Phase → Endpoint
concluded b x p = record { book = b; nibbles = no_nibbles; values = x.hearing.values; phase = p }

-- slots count from 0
unfoldable pub started : Book → Endpoint
started b = exchanging b 0 (first_exchange b)

-- a call starts from the kept book alone; a refused book has its number alone, and zeros are kept
unfoldable pub start_of : BookRead → Start
start_of r = record { verdict = r.verdict; state = started r.book }

-- what a slot brings: the state, and what is sent, delivered and taken
pub record Step : Type 0 where
  pub state : Endpoint
  pub sent : Sent
  pub delivered : Option ℕ
  pub taken : Bool

abbrev pub step : Endpoint → Sent → Step
step e s = record { state = e; sent = s; delivered = None; taken = false }

-- an end neither open nor refused after acting and sending in slot L-1 refuses 23
unfoldable pub clocked : Book → ℕ → Exchange → Endpoint
clocked b slot x =
    cond (ltb (slot + 1) b.limit) (exchanging b (slot + 1) x) (concluded b x (Refused 23 slot))

-- opened by a received byte, an end sends as an open end in that slot already; by its own last byte, from the next slot
abbrev pub opens : Book → ℕ → Exchange → ℕ → Line → Endpoint
opens b slot x i line = concluded b x (Open slot x.version i line)

abbrev pub opens_hearing : Book → ℕ → Exchange → ℕ → Drive → Step
opens_hearing b slot x i g =
    let o = writing (shape_of (entry_of b i) x.version) fresh_line.outbound g in
    step (opens b slot x i (record { outbound = o.outbound; inbound = fresh_line.inbound })) o.sent

abbrev pub step_by : Book → ℕ → Turn → Drive → Fate → Step
step_by b slot t g Stays = step (clocked b slot t.exchange) t.sent
step_by b slot t g (OpensHearing i) = opens_hearing b slot t.exchange i g
step_by b slot t g (OpensSending i) = step (opens b slot t.exchange i fresh_line) t.sent
step_by b slot t g (Refuses n) = step (concluded b t.exchange (Refused n slot)) t.sent

unfoldable pub exchange_step : Book → ℕ → Exchange → ℕ → Drive → Step
exchange_step b slot x heard g = let t = turn b x (kind_of heard) in step_by b slot t g t.fate

-- An open end: the byte acts, then the byte to send is chosen.

abbrev pub open_at : Endpoint → ℕ → ℕ → ℕ → Line → Endpoint
open_at e slot version i line =
    record { book = e.book; nibbles = e.nibbles; values = e.values; phase = Open slot version i line }

unfoldable pub open_step : Endpoint → ℕ → ℕ → ℕ → Line → ℕ → Drive → Step
open_step e slot version i line heard g =
    let s = shape_of (entry_of e.book i) version in
    let r = reading s line.inbound heard in
    let o = writing s line.outbound g in
    record {
      state = open_at e slot version i (record { outbound = o.outbound; inbound = r.inbound });
      sent = o.sent;
      delivered = r.delivered;
      taken = o.taken;
    }

-- refused ends send Sdidle for ever and ignore what comes
unfoldable pub step_at : Endpoint → ℕ → Drive → Phase → Step
step_at e heard g (Exchanging slot version a s) = exchange_step e.book slot (exchange_of e version a s) heard g
step_at e heard g (Open slot version i line) = open_step e slot version i line heard g
step_at e heard g (Refused number slot) = step e (Alone sdidle)

abbrev pub step_of : Endpoint → ℕ → Drive → Step
step_of e heard g = step_at e heard g e.phase

-- 12: a unit out of range is offered to an end open before the slot; an end not open ignores the offer
abbrev pub offer_fits : Endpoint → ℕ → ℕ → Option ℕ → Bool
offer_fits e version i None = true
offer_fits e version i (Some u) = has_unit (shape_of (entry_of e.book i) version) u

unfoldable pub offer_allowed : Endpoint → Drive → Phase → Bool
offer_allowed e g (Exchanging slot version a s) = true
offer_allowed e g (Open slot version i line) = offer_fits e version i g.offer
offer_allowed e g (Refused number slot) = true

-- where an end stands
unfoldable pub outcome_at : Endpoint → Phase → Outcome
outcome_at e (Exchanging slot version a s) = outcome.Exchanging
outcome_at e (Open slot version i line) = outcome.Open version (entry_of e.book i) slot line.inbound.standing
outcome_at e (Refused number slot) = outcome.Refused number slot

abbrev pub outcome_of : Endpoint → Outcome
outcome_of e = outcome_at e e.phase

-- a slot passes, or is refused
abbrev pub Reply : Type 0
Reply = Result Passed SlotRefusal

-- what a slot that has passed brings, put together
abbrev pub passed_with : ChannelByte → Option ℕ → Bool → Outcome → Reply
passed_with sent delivered taken outcome =
    Ok (record { sent = sent; delivered = delivered; taken = taken; outcome = outcome })

abbrev pub passes : Step → SlotAnswer
passes s =
    record {
      state = s.state;
      reply = passed_with (byte (byte_sent s.sent)) s.delivered s.taken (outcome_of s.state);
    }

-- the numbers of refusal
abbrev pub refusal_number : SlotRefusal → ℕ
refusal_number UnitOutOfRange = 12
refusal_number OutsideRanges = 13

-- a refused slot gives back the state as it came
abbrev pub refuses : Endpoint → SlotRefusal → SlotAnswer
refuses e refusal = record { state = e; reply = Err refusal }

-- what a slot brings: one that is refused leaves the state as it came, and in it nothing is sent, delivered or taken
unfoldable pub slot_step : Endpoint → ℕ → Drive → Step
slot_step e heard g = cond (well_formed e && offer_allowed e g e.phase) (step_of e heard g) (step e Silence)

-- 13 first, then 12, then the slot
unfoldable pub slot_of : Endpoint → ℕ → Drive → SlotAnswer
slot_of e heard g =
    cond (well_formed e)
    (cond (offer_allowed e g e.phase) (passes (step_of e heard g)) (refuses e UnitOutOfRange))
    (refuses e OutsideRanges)
