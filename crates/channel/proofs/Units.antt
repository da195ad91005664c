-- The values of a unit's byte and of the unit in a byte; each by one computed test over the 256 bytes. Assumes nothing.
use mathlib.Core.Path.{◌≡◌}
use Prim.Native.Nat.{ℕ, ◌+◌, ◌*◌, ◌/◌, ◌%◌, ◌<◌}
use Rattle.std.specs.Int.{w8, reverse_bits, reverse_bits_onto}
use Rattle.ground.specs.Digits.{val}
use Rattle.ground.proofs.Each.{each_eq}
use Rattle.channel.specs.Bytes.{laid}
use Rattle.channel.specs.Forms.{unit_byte, unit_in}
use Rattle.channel.specs.declared.unit.Form.TheVariants.{Six, SevenV1, SevenV2, Eight}

-- the byte of a unit
module _ (u : ℕ) (h : u < 256) where
  pub byte_six : unit_byte Six u ≡ u % 64 * 4 + 1
  unfolding unit_byte laid val
  byte_six = each_eq (unit_byte Six) (λ u. u % 64 * 4 + 1) 256 tt u h

  pub byte_seven_v1 : unit_byte SevenV1 u ≡ u % 128 * 2 + 1
  unfolding unit_byte laid val
  byte_seven_v1 = each_eq (unit_byte SevenV1) (λ u. u % 128 * 2 + 1) 256 tt u h

  -- the seven bits and a bit that is on, the other way round
  pub byte_seven_v2 : unit_byte SevenV2 u ≡ reverse_bits w8 (u % 128 + 128)
  unfolding unit_byte laid val reverse_bits_onto
  byte_seven_v2 = each_eq (unit_byte SevenV2) (λ u. reverse_bits w8 (u % 128 + 128)) 256 tt u h

  pub byte_eight : unit_byte Eight u ≡ reverse_bits w8 u
  unfolding unit_byte laid val reverse_bits_onto
  byte_eight = each_eq (unit_byte Eight) (reverse_bits w8) 256 tt u h

-- the unit in a byte
module _ (b : ℕ) (h : b < 256) where
  pub unit_six : unit_in Six b ≡ b / 4
  unfolding unit_in val
  unit_six = each_eq (unit_in Six) (λ b. b / 4) 256 tt b h

  pub unit_seven_v1 : unit_in SevenV1 b ≡ b / 2
  unfolding unit_in val
  unit_seven_v1 = each_eq (unit_in SevenV1) (λ b. b / 2) 256 tt b h

  pub unit_seven_v2 : unit_in SevenV2 b ≡ reverse_bits w8 b % 128
  unfolding unit_in val reverse_bits_onto
  unit_seven_v2 = each_eq (unit_in SevenV2) (λ b. reverse_bits w8 b % 128) 256 tt b h

  pub unit_eight : unit_in Eight b ≡ reverse_bits w8 b
  unfolding unit_in val reverse_bits_onto
  unit_eight = each_eq (unit_in Eight) (reverse_bits w8) 256 tt b h

pub ruleset byte_of_unit = (byte_six, byte_seven_v1, byte_seven_v2, byte_eight)

pub ruleset unit_of_byte = (unit_six, unit_seven_v1, unit_seven_v2, unit_eight)
