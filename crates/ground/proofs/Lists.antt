-- Laws on lists. Assumes nothing.
use mathlib.Core.Path.{◌≡◌, refl, ap}
use mathlib.Core.List.{List, ◌∷◌}
use Prim.Native.Nat.{ℕ, zero, suc, ◌≤◌}
use native.Mathlib.Omega.{arith}
use lib.ListN.{take, replicate}

pub take-replicate : {A : Type 0} (k n : ℕ) (x : A) → k ≤ n → take k (replicate n x) ≡ replicate k x
take-replicate zero n x few = refl
take-replicate (suc k) zero x few = absurd (omega arith)
take-replicate (suc k) (suc n) x few = ap (λ (xs : List _). x ∷ xs) (take-replicate k n x (omega arith))
