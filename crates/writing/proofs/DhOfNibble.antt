-- The DH of a high nibble takes four bits alone. Assumes nothing.
use mathlib.Core.Path.{◌≡◌}
use Prim.Native.Nat.{ℕ, ◌*◌, ◌%◌, ◌<◌}
use Rattle.ground.proofs.Each.{each_eq}
use Rattle.ground.specs.Digits.{val}
use Rattle.channel.specs.Bytes.{laid, dh_byte}

pub dh_of_nibble : (high : ℕ) → high < 256 → dh_byte (high % 16 * 16) ≡ dh_byte (16 * high)
unfolding val laid dh_byte
dh_of_nibble high h = each_eq (λ x. dh_byte (x % 16 * 16)) (λ x. dh_byte (16 * x)) 256 tt high h
