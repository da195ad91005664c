-- A script: a 16-bit big-endian book length, the book, then three bytes a slot. Assumes nothing.
use Rattle.std.specs.Prelude.{Bool, true, false, ◌||◌, List, [], ◌∷◌, ℕ, ◌+◌, ◌*◌, eqb, ltb, length, take, drop, get_or, Option}
use Rattle.std.specs.Bool.{then_some}
use Rattle.ground.specs.Digits.{bit}
use Rattle.protocol.specs.Opened.{drive_with}
use Rattle.protocol.specs.declared.Drive.{Drive}

abbrev pub most_bytes : ℕ
most_bytes = 65535

abbrev pub book_length : List ℕ → ℕ
book_length s = 256 * get_or s 0 0 + get_or s 1 0

abbrev pub book_in : List ℕ → List ℕ
book_in s = take (book_length s) (drop 2 s)

abbrev pub slots_at : List ℕ → ℕ
slots_at s = 2 + book_length s

abbrev pub slots_in : List ℕ → List ℕ
slots_in s = drop (slots_at s) s

abbrev pub is_on : ℕ → ℕ → Bool
is_on i flags = eqb (bit i flags) 1

-- bits 6 and 7 must be 0
abbrev pub is_stray : ℕ → Bool
is_stray flags = is_on 6 flags || is_on 7 flags

-- the slots are cut, or one of them has bit 6 or 7 on
unfoldable pub slots_fault : List ℕ → Bool
slots_fault [] = false
slots_fault (heard ∷ []) = true
slots_fault (heard ∷ flags ∷ []) = true
slots_fault (heard ∷ flags ∷ unit ∷ rest) = is_stray flags || slots_fault rest

-- too large, or cut inside the length or the book, or the slots are at fault
unfoldable pub script_fault : List ℕ → Bool
script_fault s =
    ltb most_bytes (length s) || (ltb (length s) 2 || (ltb (length s) (slots_at s) || slots_fault (slots_in s)))

abbrev pub offer_of : Bool → ℕ → Option ℕ
offer_of offered unit = then_some offered unit

-- leads s0 to s3 in bits 0 to 3, the break flag in bit 4, and bit 5 on if a unit is offered
unfoldable pub drive_of : ℕ → ℕ → Drive
drive_of flags unit =
    drive_with (record { s0 = is_on 0 flags; s1 = is_on 1 flags; s2 = is_on 2 flags; s3 = is_on 3 flags }) (is_on 4 flags)
    (offer_of (is_on 5 flags) unit)
