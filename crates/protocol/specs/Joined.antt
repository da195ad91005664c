-- Two ends joined by a channel that does no damage, as a program runs them. Assumes nothing.
use Rattle.std.specs.Prelude.{false, List, [], ◌∷◌, ◌++◌, ℕ, get_or, drop, replicate, None, Ok, Err}
use Rattle.channel.specs.Bytes.{sgidle}
use Rattle.protocol.specs.Opened.{idle_leads, drive_with}
use Rattle.protocol.specs.Slot.{slot_of, Reply}
use Rattle.protocol.specs.declared.Endpoint.{Endpoint}
use Rattle.protocol.specs.declared.Drive.{Drive}

-- the originator, the answerer, and the bytes on their way to each, the next to arrive first
pub record Joined : Type 0 where
  pub o : Endpoint
  pub a : Endpoint
  pub to_o : List ℕ
  pub to_a : List ℕ

-- what each end is given: leads 0100, no break, no unit offered
abbrev pub idle : Drive
idle = drive_with idle_leads false None

-- the byte of a slot that has passed
abbrev pub byte_of : Reply → ℕ
byte_of (Err refusal) = sgidle
byte_of (Ok passed) = passed.sent.0

abbrev pub arriving : List ℕ → ℕ
arriving bytes = get_or bytes 0 sgidle

-- before the first byte of the other end arrives, 7F arrives
unfoldable pub joined : Endpoint → Endpoint → ℕ → Joined
joined o a d = record { o = o; a = a; to_o = replicate d sgidle; to_a = replicate d sgidle }

unfoldable pub joined_slot : Drive → Drive → Joined → Joined
joined_slot go ga j =
    let x = slot_of j.o (arriving j.to_o) go in
    let y = slot_of j.a (arriving j.to_a) ga in
    record {
      o = x.state;
      a = y.state;
      to_o = drop 1 j.to_o ++ (byte_of y.reply ∷ []);
      to_a = drop 1 j.to_a ++ (byte_of x.reply ∷ []);
    }
