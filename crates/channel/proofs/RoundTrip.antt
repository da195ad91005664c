-- Decoding undoes encoding, for every unit of every form and version, whatever B8 is on receipt except in form 8. Assumes nothing.
use mathlib.Core.Path.{◌≡◌, ap, ◌∙◌}
use mathlib.Core.Bool.{Bool, ◌&&◌, beq}
use Prim.Native.Nat.{ℕ, ◌+◌, ◌*◌, ◌/◌, ◌%◌, ◌^◌, ◌<◌}
use native.Mathlib.Nat.{mod-eq_of_lt}
use native.Mathlib.Omega.{arith}
use lib.Dec.{T, eqb, eqb→eq}
use Rattle.std.specs.Prelude.{Some}
use Rattle.ground.specs.Digits.{val}
use Rattle.ground.specs.Lists.{is_among}
use Rattle.ground.proofs.Test.{and_left, and_right, same_flag, flag_true}
use Rattle.ground.proofs.Each.{up_to, each}
use Rattle.channel.specs.Bytes.{laid, dl_byte, dh_byte}
use Rattle.channel.specs.Kinds.{kind_of}
use Rattle.channel.specs.Forms.{units_of, unit_byte, unit_in, is_data, decoded, ArrivesAs, same_both_ways, word_of}
use Rattle.channel.specs.declared.unit.Form.{Form}
use Rattle.channel.specs.declared.unit.Form.TheVariants.{Six, SevenV1, SevenV2, Eight}
use Rattle.channel.specs.declared.kind.Kind.TheVariants.{Dl, Dh}
use Rattle.channel.proofs.ReadBack.{dl_read, dh_read, b8_ignored}

-- the byte is data and its unit is u
abbrev gives : Form → ℕ → ℕ → Bool
gives f u b = is_data f b && eqb (unit_in f b) u

is_unit : (f : Form) (u b : ℕ) → T (gives f u b) → decoded f b ≡ Some u
unfolding decoded
is_unit f u b t =
    rw (flag_true (is_data f b) (and_left (is_data f b) (eqb (unit_in f b) u) t))
    (ap Some (eqb→eq (unit_in f b) u (and_right (is_data f b) (eqb (unit_in f b) u) t)))

-- a byte of which only B8 is not known
halved : (f : Form) (u b : ℕ) → b / 2 ≡ unit_byte f u / 2 → b ≡ unit_byte f u / 2 * 2 + b % 2
halved f u b e = omega arith

module _ (f : Form) (t : T (up_to (λ u. up_to (λ x. gives f u (unit_byte f u / 2 * 2 + x)) 2) (units_of f))) where
  either_b8 : (u b : ℕ) → u < units_of f → b / 2 ≡ unit_byte f u / 2 → decoded f b ≡ Some u
  either_b8 u b h e =
      ap (decoded f) (halved f u b e)
      ∙ is_unit f u (unit_byte f u / 2 * 2 + b % 2)
      (each (λ x. gives f u (unit_byte f u / 2 * 2 + x)) 2
      (each (λ u. up_to (λ x. gives f u (unit_byte f u / 2 * 2 + x)) 2) (units_of f) t u h) (b % 2) (omega arith))

-- each form by its own computed test
six_back : (u b : ℕ) → u < units_of Six → ArrivesAs Six (unit_byte Six u) b → decoded Six b ≡ Some u
unfolding unit_byte unit_in laid val
six_back u b h e = either_b8 Six tt u b h e

seven_v1_back : (u b : ℕ) → u < units_of SevenV1 → ArrivesAs SevenV1 (unit_byte SevenV1 u) b → decoded SevenV1 b ≡ Some u
unfolding unit_byte unit_in laid val
seven_v1_back u b h e = either_b8 SevenV1 tt u b h e

seven_v2_back : (u b : ℕ) → u < units_of SevenV2 → ArrivesAs SevenV2 (unit_byte SevenV2 u) b → decoded SevenV2 b ≡ Some u
unfolding unit_byte unit_in laid val
seven_v2_back u b h e = either_b8 SevenV2 tt u b h e

eight_back : (u b : ℕ) → u < units_of Eight → ArrivesAs Eight (unit_byte Eight u) b → decoded Eight b ≡ Some u
unfolding unit_byte unit_in laid val
eight_back u b h e = ap (decoded Eight) e ∙ is_unit Eight u (unit_byte Eight u) (each (λ u. gives Eight u (unit_byte Eight u)) 256 tt u h)

pub round_trip : (f : Form) (u b : ℕ) → u < units_of f → ArrivesAs f (unit_byte f u) b → decoded f b ≡ Some u
round_trip Six u b h e = six_back u b h e
round_trip SevenV1 u b h e = seven_v1_back u b h e
round_trip SevenV2 u b h e = seven_v2_back u b h e
round_trip Eight u b h e = eight_back u b h e

-- form 0: the bytes of a word, whatever their B8, are a DL and a DH, and their nibbles give the word back
pub round_trip_word : (w v low high : ℕ) → v < 2 ^ w → v < 256
    → low / 2 ≡ dl_byte v / 2 → high / 2 ≡ dh_byte v / 2
    → (kind_of low ≡ Dl (v % 16)) × (kind_of high ≡ Dh (v / 16)) × (word_of w (v % 16) (v / 16) ≡ v)
unfolding word_of
round_trip_word w v low high f h p q =
    let e : v % 16 % 16 + v / 16 % 16 * 16 ≡ v = omega arith in (
      b8_ignored low (dl_byte v) p ∙ dl_read v h,
      b8_ignored high (dh_byte v) q ∙ dh_read v h,
      ap (λ n. n % 2 ^ w) e ∙ mod-eq_of_lt f,
    )

-- the versions of form 7 lay a unit alike where its bits read the same both ways, and there alone
pub versions_agree : (u : ℕ) → u < 128 → eqb (unit_byte SevenV1 u) (unit_byte SevenV2 u) ≡ is_among u same_both_ways
unfolding unit_byte laid val same_both_ways
versions_agree u h =
    same_flag (eqb (unit_byte SevenV1 u) (unit_byte SevenV2 u)) (is_among u same_both_ways)
    (each (λ u. beq (eqb (unit_byte SevenV1 u) (unit_byte SevenV2 u)) (is_among u same_both_ways)) 128 tt u h)
