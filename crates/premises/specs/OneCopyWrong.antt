-- A channel that does much of the damage that it may: of every group the second copy arrives wrong at each of its eight bits, and B8
-- arrives wrong everywhere but in form 8 units. Assumes nothing.
use Rattle.std.specs.Prelude.{◌≡◌, Bool, true, false, cond, [], ◌∷◌, ℕ, ◌+◌, ◌-◌, ◌*◌, ◌/◌, ◌%◌, eqb}
use Rattle.book.specs.declared.Book.{Book}
use Rattle.channel.specs.Bytes.{laid, B}
use Rattle.channel.specs.Forms.{unit_byte}
use Rattle.channel.specs.declared.unit.Form.{Form}
use Rattle.channel.specs.declared.unit.Form.TheVariants.{Six, SevenV1, SevenV2, Eight}
use Rattle.protocol.specs.Sent.{Sent, Silence, Alone, Part, Unit, group_byte, byte_sent}
use Rattle.protocol.specs.Slot.{started}
use Rattle.protocol.specs.Call.{sent_at}
use Rattle.protocol.specs.Pair.{JoinedPair}
use Rattle.protocol.specs.declared.Drive.{Drive}

abbrev pub inverted : ℕ → ℕ
inverted bit = 1 - bit

-- the byte with B8 inverted
unfoldable pub b8_inverted : ℕ → ℕ
b8_inverted b = 2 * (b / 2) + inverted (b % 2)

-- the byte with its nibble, B1 to B4, and B8 inverted
unfoldable pub nibble_inverted : ℕ → ℕ
nibble_inverted b =
    laid (inverted (B 1 b) ∷ inverted (B 2 b) ∷ inverted (B 3 b) ∷ inverted (B 4 b) ∷ B 5 b ∷ B 6 b ∷ B 7 b ∷ inverted (B 8 b) ∷ [])

abbrev pub unit_damaged : Form → ℕ → ℕ
unit_damaged Six b = b8_inverted b
unit_damaged SevenV1 b = b8_inverted b
unit_damaged SevenV2 b = b8_inverted b
unit_damaged Eight b = b

-- the second copy is at places 2 and 3 of a group
abbrev pub in_second_copy : ℕ → Bool
in_second_copy place = eqb (place / 2) 1

abbrev pub part_damaged : ℕ → ℕ → ℕ
part_damaged place b = cond (in_second_copy place) (nibble_inverted b) (b8_inverted b)

-- the byte that arrives for what is sent
unfoldable pub damaged : Sent → ℕ
damaged Silence = b8_inverted (byte_sent Silence)
damaged (Alone b) = b8_inverted b
damaged (Part place value) = part_damaged place (group_byte place value)
damaged (Unit f u) = unit_damaged f (unit_byte f u)

-- the byte of a form 8 unit, in which B8 may not change
abbrev pub is_eight : Sent → Bool
is_eight Silence = false
is_eight (Alone b) = false
is_eight (Part place value) = false
is_eight (Unit Six u) = false
is_eight (Unit SevenV1 u) = false
is_eight (Unit SevenV2 u) = false
is_eight (Unit Eight u) = true

-- a joined pair in which all that either end sends arrives with that damage
pub record DamagedPair (d : ℕ) (bo ba : Book) (go ga : ℕ → Drive) : Type 0 where
  pub ho : ℕ → ℕ
  pub ha : ℕ → ℕ
  pub pair : JoinedPair d bo ba go ga ho ha
  pub damage_o : (t : ℕ) → ho (t + d) ≡ damaged (sent_at (started ba) ha ga t)
  pub damage_a : (t : ℕ) → ha (t + d) ≡ damaged (sent_at (started bo) ho go t)
