-- What a script says is what the call of demand 2 does: that call from the script's book, on the bytes and drives of its slots.
-- Assumes nothing.
use Rattle.std.specs.Prelude.{◌≡◌, false, cond, List, [], ◌++◌, ℕ, zero, suc, ◌+◌, ◌*◌, ◌/◌, length, get_or, Err}
use Rattle.book.specs.declared.Book.{Book}
use Rattle.book.specs.Reading.{accepts, read_book}
use Rattle.channel.specs.Bytes.{byte}
use Rattle.protocol.specs.Sent.{byte_sent}
use Rattle.protocol.specs.Slot.{started, offer_allowed, Reply, passed_with}
use Rattle.protocol.specs.Call.{end_at, sent_at, delivered_at, taken_at, stands_at}
use Rattle.protocol.specs.declared.Endpoint.{Endpoint}
use Rattle.protocol.specs.declared.Drive.{Drive}
use Rattle.protocol.specs.declared.SlotRefusal.TheVariants.{UnitOutOfRange}
use Rattle.script.specs.Input.{book_in, slots_in, script_fault, drive_of}
use Rattle.script.specs.Line.{line_of}
use Rattle.script.specs.Output.{script_says}

-- the byte heard in slot t of these slots, three bytes each, and what is given in it
abbrev pub heard_in : List ℕ → ℕ → ℕ
heard_in slots t = get_or slots (3 * t) 0

abbrev pub given_in : List ℕ → ℕ → Drive
given_in slots t = drive_of (get_or slots (3 * t + 1) 0) (get_or slots (3 * t + 2) 0)

module _ (e : Endpoint) (heard : ℕ → ℕ) (given : ℕ → Drive) where
  -- what the call replies in slot t: what it sends, delivers and takes and where the end then stands, or 12
  abbrev pub replies_in : ℕ → Reply
  replies_in t =
      cond (offer_allowed (end_at e heard given t) (given t) (end_at e heard given t).phase)
      (passed_with (byte (byte_sent (sent_at e heard given t))) (delivered_at e heard given t) (taken_at e heard given t)
      (stands_at e heard given (suc t)))
      (Err UnitOutOfRange)

  -- the lines of its first n slots
  unfoldable pub lines_of : ℕ → List ℕ
  lines_of zero = []
  lines_of (suc t) = lines_of t ++ line_of t (stands_at e heard given (suc t)) (replies_in t)

-- an accepted script is said line by line, one for each slot of the call
abbrev pub SaysTrue : Type 0
SaysTrue = (s : List ℕ) (b : Book) → script_fault s ≡ false → read_book (book_in s) ≡ accepts b
    → script_says s ≡ lines_of (started b) (heard_in (slots_in s)) (given_in (slots_in s)) (length (slots_in s) / 3)
