-- What the code hands back of one slot of the exchange: its state, its fate, and the byte sent without the part that the byte has.
-- Assumes nothing.
use Rattle.channel.specs.Bytes.{byte}
use Rattle.protocol.specs.Sent.{byte_sent}
use Rattle.protocol.specs.Exchange.{Turn}
use Rattle.exchange.specs.declared.turn.TurnMade.{TurnMade}

abbrev pub made : Turn → TurnMade
made t = record { exchange = t.exchange; fate = t.fate; sent = byte (byte_sent t.sent) }
