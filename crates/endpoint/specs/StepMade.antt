-- What the code hands back of one slot: the fields of protocol's step, with the byte for what is sent, and the end without its book, which no
-- slot changes. Assumes nothing.
use Rattle.std.specs.Prelude.{false, ℕ, None}
use Rattle.book.specs.declared.Book.{Book}
use Rattle.channel.specs.declared.byte.ChannelByte.{ChannelByte}
use Rattle.channel.specs.Bytes.{byte}
use Rattle.protocol.specs.Collecting.{no_nibbles}
use Rattle.protocol.specs.Sent.{byte_sent}
use Rattle.protocol.specs.Slot.{Step, outcome_of, passed_with}
use Rattle.protocol.specs.declared.Endpoint.{Endpoint}
use Rattle.protocol.specs.declared.Exchange.{Exchange}
use Rattle.protocol.specs.declared.Phase.{Phase}
use Rattle.protocol.specs.declared.Phase.TheVariants.{Exchanging}
use Rattle.protocol.specs.declared.SlotAnswer.{SlotAnswer}
use Rattle.endpoint.specs.declared.slot.Rest.{Rest}
use Rattle.endpoint.specs.declared.slot.StepMade.{StepMade}

abbrev pub rest_of : Endpoint → Rest
rest_of e = record { nibbles = e.nibbles; values = e.values; phase = e.phase }

abbrev pub with_book : Book → Rest → Endpoint
with_book b r = record { book = b; nibbles = r.nibbles; values = r.values; phase = r.phase }

-- an end in the exchange, and one that has concluded
abbrev pub exchanging_rest : ℕ → Exchange → Rest
exchanging_rest slot x =
    record {
      nibbles = x.hearing.nibbles;
      values = x.hearing.values;
      phase = Exchanging slot x.version x.hearing.awaited x.sending;
    }

abbrev pub concluded_rest : Exchange → Phase → Rest
concluded_rest x p = record { nibbles = no_nibbles; values = x.hearing.values; phase = p }

abbrev pub step_made : Step → StepMade
step_made s = record { rest = rest_of s.state; sent = byte (byte_sent s.sent); delivered = s.delivered; taken = s.taken }

-- nothing is delivered or taken
abbrev pub quiet_step : Rest → ChannelByte → StepMade
quiet_step rest sent = record { rest = rest; sent = sent; delivered = None; taken = false }

abbrev pub passed_by : Book → StepMade → SlotAnswer
passed_by b s =
    let e = with_book b s.rest in
    record { state = e; reply = passed_with s.sent s.delivered s.taken (outcome_of e) }
