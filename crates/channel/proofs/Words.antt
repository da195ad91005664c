-- What a word of 8 bits or more holds. Assumes nothing.
use mathlib.Core.Path.{◌≡◌, sym}
use mathlib.Core.Bool.{true}
use Prim.Native.Nat.{ℕ, ◌+◌, ◌*◌, ◌%◌, ◌^◌, ◌<◌, ◌≤◌}
use native.Mathlib.Nat.{mod-eq_of_lt, lt_of_lt_of_le}
use native.Mathlib.Omega.{arith}
use lib.Pow.{pow_mono}
use borrow.Author.Tests.{lt-ltb}
use Rattle.channel.specs.Forms.{word_fits, word_of}

octet_below : (w v : ℕ) → 8 ≤ w → v < 256 → v < 2 ^ w
octet_below w v h l = lt_of_lt_of_le l (pow_mono {i = 8} {j = w} h)

pub octet_fits : (w v : ℕ) → 8 ≤ w → v < 256 → true ≡ word_fits w v
unfolding word_fits
octet_fits w v h l = sym (lt-ltb v (2 ^ w) (octet_below w v h l))

pub octet_whole : (w low high : ℕ) → 8 ≤ w → low % 16 + high % 16 * 16 ≡ word_of w low high
unfolding word_of
octet_whole w low high h = sym (mod-eq_of_lt (octet_below w (low % 16 + high % 16 * 16) h (omega arith)))
