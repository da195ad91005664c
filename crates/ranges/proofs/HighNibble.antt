-- Whether a word of w bits has a high nibble. Assumes nothing.
use mathlib.Core.Path.{◌≡◌, refl, sym, ◌∙◌, ap}
use mathlib.Core.Bool.{Bool, true, false}
use Prim.Native.Nat.{ℕ, ◌+◌, ◌-◌, ◌*◌, ◌^◌, ◌<◌, ◌≤◌}
use native.Mathlib.Omega.{arith}
use lib.Dec.{eqb, ltb}
use lib.Pow.{pow_pos, pow_mono, pow-add}
use borrow.Author.Tests.{ltb-true, ltb-false, lt-ltb, le-ltb, eqb-true, eqb-false}
use Rattle.channel.specs.Forms.{word_fits}

-- a word of fewer than four bits has none but 0
pub no_high : (w high : ℕ) → w < 4 → eqb high 0 ≡ word_fits w (16 * high)
unfolding word_fits
no_high w high h =
    let least : 0 < 2 ^ w = pow_pos w in
    let most : 2 ^ w ≤ 8 = pow_mono {i = w} {j = 3} (omega arith) in
    go (eqb high 0) refl least most
  where
    go : (f : Bool) → eqb high 0 ≡ f → 0 < 2 ^ w → 2 ^ w ≤ 8 → f ≡ ltb (16 * high) (2 ^ w)
    go true e l m = sym (lt-ltb (16 * high) (2 ^ w) (omega (arith, eqb-true high 0 e)))
    go false e l m = sym (le-ltb (16 * high) (2 ^ w) (omega (arith, eqb-false high 0 e)))

-- of the w bits of a word the low nibble takes four
pub high_within : (w high : ℕ) → 4 ≤ w → word_fits (w - 4) high ≡ word_fits w (16 * high)
unfolding word_fits
high_within w high h =
    let all : w ≡ w - 4 + 4 = omega arith in
    let whole : 2 ^ w ≡ 2 ^ (w - 4) * 16 = ap (λ (n : ℕ). 2 ^ n) all ∙ pow-add 2 (w - 4) 4 in
    go (ltb high (2 ^ (w - 4))) refl whole
  where
    go : (f : Bool) → ltb high (2 ^ (w - 4)) ≡ f → 2 ^ w ≡ 2 ^ (w - 4) * 16 → f ≡ ltb (16 * high) (2 ^ w)
    go true e l = sym (lt-ltb (16 * high) (2 ^ w) (omega (arith, ltb-true high (2 ^ (w - 4)) e)))
    go false e l = sym (le-ltb (16 * high) (2 ^ w) (omega (arith, ltb-false high (2 ^ (w - 4)) e)))
