-- What the code of the sending half hands back: the fields of protocol's writings, with the byte for what is sent. Assumes nothing.
use Rattle.std.specs.Prelude.{Bool, ℕ, Option}
use Rattle.channel.specs.declared.byte.ChannelByte.{ChannelByte}
use Rattle.channel.specs.Bytes.{byte}
use Rattle.protocol.specs.Sent.{byte_sent}
use Rattle.protocol.specs.Opened.{Writing, outbound_of}
use Rattle.protocol.specs.declared.Claim.TheVariants.{Free}
use Rattle.protocol.specs.declared.Outbound.{Outbound}
use Rattle.writing.specs.declared.WritingMade.{WritingMade}

abbrev pub writing_made : Writing → WritingMade
writing_made w = record { outbound = w.outbound; sent = byte (byte_sent w.sent); taken = w.taken }

-- a byte that is no Sd leaves the last two Sd as they are, and nobody with a claim on the line
abbrev pub sending_byte : Outbound → ℕ → Option ℕ → ChannelByte → Bool → WritingMade
sending_byte o opening due sent taken =
    record { outbound = outbound_of opening due Free o.last o.before; sent = sent; taken = taken }
