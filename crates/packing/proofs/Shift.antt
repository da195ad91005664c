-- A power of 2 as the code makes it, by a shift. Assumes nothing.
use mathlib.Core.Path.{◌≡◌, ◌∙◌}
use Prim.Native.Nat.{ℕ, ◌*◌, ◌%◌, ◌^◌, ◌≤◌}
use native.Mathlib.Nat.{mod-eq_of_lt, one-mul}
use native.Mathlib.Omega.{arith}
use lib.Pow.{pow_mono}

pub one_shl : (b : ℕ) → b ≤ 8 → 1 * 2 ^ b % 18446744073709551616 ≡ 2 ^ b
one_shl b h =
    let p : 2 ^ b ≤ 2 ^ 8 = pow_mono h in
    mod-eq_of_lt (omega arith) ∙ one-mul (2 ^ b)
