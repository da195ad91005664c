-- What is sent in a slot, with the part that the byte has: by that part goes the damage that the channel may do. Assumes nothing.
use Rattle.std.specs.Prelude.{cond, ℕ, ◌-◌, ◌/◌, ◌%◌, List, eqb, ltb, get_or}
use Rattle.book.specs.declared.Book.{Book}
use Rattle.channel.specs.Bytes.{sgp, sgidle, dl_byte, dh_byte}
use Rattle.channel.specs.Forms.{unit_byte}
use Rattle.channel.specs.declared.unit.Form.{Form}
use Rattle.protocol.specs.Lengths.{parameter_lead, parameter_bytes}

pub data Sent : Type 0 where
  -- nothing: the slot is refused
  Silence : Sent
  -- a byte by itself
  Alone : ℕ → Sent
  -- one of the six bytes of the group that carries a value
  Part : ℕ → ℕ → Sent
  -- a unit of one byte
  Unit : Form → ℕ → Sent

-- three DL DH pairs
abbrev pub group_byte : ℕ → ℕ → ℕ
group_byte place value = cond (eqb (place % 2) 0) (dl_byte value) (dh_byte value)

-- where nothing is sent the line is idle
unfoldable pub byte_sent : Sent → ℕ
byte_sent Silence = sgidle
byte_sent (Alone b) = b
byte_sent (Part place value) = group_byte place value
byte_sent (Unit f u) = unit_byte f u

-- byte i of the five parameters, each 32 Sgpk and its group
unfoldable pub parameter_sent : Book → List ℕ → ℕ → Sent
parameter_sent b values i =
    cond (ltb (i % parameter_bytes b) (parameter_lead b)) (Alone (sgp (i / parameter_bytes b)))
    (Part (i % parameter_bytes b - parameter_lead b) (get_or values (i / parameter_bytes b) 0))
