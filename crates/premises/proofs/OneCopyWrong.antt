-- Damage is allowed: of every group one copy may arrive wrong at every bit, and B8 may be wrong everywhere but in form 8 units.
-- Assumes nothing.
use mathlib.Core.Path.{◌≡◌, refl, ap, ◌∙◌}
use mathlib.Core.Bool.{false}
use Prim.Native.Nat.{ℕ, ◌+◌, ◌*◌, ◌/◌, ◌%◌, ◌<◌}
use native.Mathlib.Nat.{zero-add}
use native.Mathlib.Omega.{arith}
use lib.Dec.{eqb}
use Rattle.ground.specs.Digits.{val}
use Rattle.ground.proofs.Each.{up_to, each, each_eq}
use Rattle.ground.proofs.Test.{either_way}
use Rattle.channel.specs.Bytes.{laid, B, sgidle, dl_byte, dh_byte}
use Rattle.channel.specs.Kinds.{nibble_in}
use Rattle.channel.specs.Forms.{unit_byte, ArrivesAs}
use Rattle.channel.specs.Vote.{as_sent}
use Rattle.channel.specs.declared.unit.Form.{Form}
use Rattle.channel.specs.declared.unit.Form.TheVariants.{Six, SevenV1, SevenV2, Eight}
use Rattle.protocol.specs.Sent.{Sent, Silence, Alone, Part, Unit, group_byte, byte_sent}
use Rattle.protocol.specs.Damage.{copy_heard, GroupArrives, Arrives}
use Rattle.premises.specs.OneCopyWrong.{inverted, b8_inverted, nibble_inverted, unit_damaged, in_second_copy, part_damaged, damaged, is_eight}
use Rattle.premises.proofs.WithinDamage.{low_bit, dl_low, dh_low, Within, copy_as_sent, arrives}

b8_half : (b : ℕ) → b8_inverted b / 2 ≡ b / 2
unfolding b8_inverted
b8_half b = omega arith

-- B8 has no part in the nibble
half_nibble : (a b : ℕ) → a / 2 ≡ b / 2 → nibble_in a ≡ nibble_in b
unfolding nibble_in
half_nibble a b e =
    let b4 : a / 16 ≡ b / 16 = omega arith in
    let b3 : a / 32 ≡ b / 32 = omega arith in
    let b2 : a / 64 ≡ b / 64 = omega arith in
    let b1 : a / 128 ≡ b / 128 = omega arith in
    rw (b4, b3, b2, b1)

b8_nibble : (b : ℕ) → nibble_in (b8_inverted b) ≡ nibble_in b
b8_nibble b = half_nibble (b8_inverted b) b (b8_half b)

-- a DL, or a DH, with its nibble inverted is one still
abbrev marks : ℕ → ℕ
marks b = b / 2 % 8

dl_marks : (v : ℕ) → marks (nibble_inverted (dl_byte v)) ≡ marks (dl_byte v)
unfolding nibble_inverted dl_byte laid val
dl_marks v = rw (dl_low v) (each_eq (λ v. marks (nibble_inverted (dl_byte v))) (λ v. marks (dl_byte v)) 256 tt (v % 256) (omega arith))

dh_marks : (v : ℕ) → marks (nibble_inverted (dh_byte v)) ≡ marks (dh_byte v)
unfolding nibble_inverted dh_byte laid val
dh_marks v = rw (dh_low v) (each_eq (λ v. marks (nibble_inverted (dh_byte v))) (λ v. marks (dh_byte v)) 256 tt (v % 256) (omega arith))

part_marks : (place v : ℕ) → marks (part_damaged place (group_byte place v)) ≡ marks (group_byte place v)
part_marks place v =
    either_way (λ b. marks b ≡ marks (group_byte place v)) (in_second_copy place)
    (either_way (λ b. marks (nibble_inverted b) ≡ marks b) (eqb (place % 2) 0) (dl_marks v) (dh_marks v))
    (ap (λ h. h % 8) (b8_half (group_byte place v)))

group_damaged : (v : ℕ) → GroupArrives v (λ place. part_damaged place (group_byte place v)) 0
group_damaged v =
    record {
      marks = λ place l. rw zero-add (part_marks place v);
      copies =
          λ i l.
          rw (copy_as_sent v i (b8_inverted (dl_byte v)) (b8_inverted (dh_byte v)) l (b8_nibble (dl_byte v)) (b8_nibble (dh_byte v)))
          (omega arith);
    }

unit_damaged_lem : (f : Form) (b : ℕ) → ArrivesAs f b (unit_damaged f b)
unit_damaged_lem Six b = b8_half b
unit_damaged_lem SevenV1 b = b8_half b
unit_damaged_lem SevenV2 b = b8_half b
unit_damaged_lem Eight b = refl

pub damaged_within : Within damaged
unfolding damaged
damaged_within = record { alone = b8_half; units = λ f u. unit_damaged_lem f (unit_byte f u); groups = group_damaged }

-- before the first byte arrives, 7F arrives, or 7E; then whatever was sent d slots before arrives with that damage
pub one_copy_may_be_wrong : (d : ℕ) (sent : ℕ → Sent) (heard : ℕ → ℕ) → ((t : ℕ) → t < d → heard t / 2 ≡ sgidle / 2)
    → ((t : ℕ) → heard (t + d) ≡ damaged (sent t)) → Arrives d sent heard
one_copy_may_be_wrong d sent heard early late = arrives damaged damaged_within d sent heard early late

-- That copy is wrong at every bit, and B8 is wrong wherever it may be.

abbrev wrong_copy : ℕ → ℕ
wrong_copy v = nibble_in (nibble_inverted (dl_byte v)) + 16 * nibble_in (nibble_inverted (dh_byte v))

wrong_at_once : (v i : ℕ) → v < 256 → i < 8 → as_sent i (wrong_copy v) v ≡ 0
unfolding nibble_in nibble_inverted dl_byte dh_byte laid val
wrong_at_once v i l h =
    each_eq (λ i. as_sent i (wrong_copy v) v) (λ i. 0) 8 (each (λ v. up_to (λ i. eqb (as_sent i (wrong_copy v) v) 0) 8) 256 tt v l) i h

pub second_copy_wrong : (v i : ℕ) → i < 8 → as_sent i (copy_heard (λ place. damaged (Part place v)) 0 1) v ≡ 0
unfolding damaged
second_copy_wrong v i h = rw (dl_low v, dh_low v, ← low_bit v i h) (wrong_at_once (v % 256) i (omega arith) h)

last_bit : (last rest : ℕ) → last < 2 → (last + 2 * rest) % 2 ≡ last
last_bit last rest l = omega arith

b8_b8 : (b : ℕ) → b8_inverted b % 2 ≡ inverted (b % 2)
unfolding b8_inverted
b8_b8 b = omega arith

nibble_b8 : (b : ℕ) → nibble_inverted b % 2 ≡ inverted (b % 2)
unfolding nibble_inverted laid val
nibble_b8 b = last_bit (inverted (B 8 b)) _ (omega arith) ∙ omega arith

pub b8_wrong : (s : Sent) → is_eight s ≡ false → damaged s % 2 ≡ inverted (byte_sent s % 2)
unfolding damaged byte_sent
b8_wrong Silence e = b8_b8 sgidle
b8_wrong (Alone b) e = b8_b8 b
b8_wrong (Part place v) e =
    either_way (λ b. b % 2 ≡ inverted (group_byte place v % 2)) (in_second_copy place) (nibble_b8 (group_byte place v)) (b8_b8 (group_byte place v))
b8_wrong (Unit Six u) e = b8_b8 (unit_byte Six u)
b8_wrong (Unit SevenV1 u) e = b8_b8 (unit_byte SevenV1 u)
b8_wrong (Unit SevenV2 u) e = b8_b8 (unit_byte SevenV2 u)
b8_wrong (Unit Eight u) e = let z : ◌≡◌ {A = ℕ} 0 1 = cc in absurd (omega arith)
