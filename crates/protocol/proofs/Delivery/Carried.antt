-- A DL or a DH carries the nibble of its byte, which is of 4 bits. Assumes nothing.
use mathlib.Core.Path.{◌≡◌, refl}
use mathlib.Core.Bool.{◌&&◌}
use Prim.Native.Nat.{ℕ, ◌<◌}
use native.Mathlib.Omega.{arith}
use lib.Dec.{eqb, leb}
use Rattle.ground.specs.Digits.{val}
use Rattle.ground.proofs.Test.{by_test}
use Rattle.channel.specs.declared.kind.Kind.{Kind}
use Rattle.channel.specs.declared.kind.Kind.TheVariants.{Sgvi, Sgp, Sgr, Dl, Dh, Sd, Other}
use Rattle.channel.specs.Kinds.{kind_number, nibble_in, kind_from, kind_of}

abbrev pub Carries : ℕ → Kind → Type 0
Carries byte Sgvi = Unit {0}
Carries byte (Sgp k) = Unit {0}
Carries byte Sgr = Unit {0}
Carries byte (Dl x) = x ≡ nibble_in byte
Carries byte (Dh x) = x ≡ nibble_in byte
Carries byte (Sd s bk) = Unit {0}
Carries byte Other = Unit {0}

pub kind_carries : (byte : ℕ) → Carries byte (kind_of byte)
unfolding kind_of kind_from
kind_carries byte =
    let n = kind_number byte in
    by_test (Carries byte) (eqb n 1) (λ t. refl)
    (λ t. by_test (Carries byte) (eqb n 2) (λ t. refl)
    (λ t. by_test (Carries byte) (eqb n 3) (λ t. tt)
    (λ t. by_test (Carries byte) (eqb n 4) (λ t. tt)
    (λ t. by_test (Carries byte) (leb 5 n && leb n 9) (λ t. tt)
    (λ t. by_test (Carries byte) (eqb n 10) (λ t. tt) (λ t. tt))))))

pub nibble_below : (byte : ℕ) → nibble_in byte < 16
unfolding nibble_in val
nibble_below byte = omega arith
