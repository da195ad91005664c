-- A rule of the numbers below n, proved at each of them by one test that is computed. Assumes nothing.
use mathlib.Core.Path.{◌≡◌, subst, sym}
use mathlib.Core.Bool.{Bool, true, ◌&&◌}
use mathlib.Core.Logic.{⊎_elim}
use Prim.Native.Nat.{ℕ, zero, suc, ◌<◌}
use native.Mathlib.Nat.{not-suc-le-zero, le_of_suc-le-suc, eq-or-lt_of_le}
use lib.Dec.{T, eqb, eqb→eq}
use Rattle.ground.proofs.Test.{and_left, and_right}

-- the test f passes at each number below n
abbrev pub up_to : (ℕ → Bool) → ℕ → Bool
up_to f zero = true
up_to f (suc n) = f n && up_to f n

pub each : (f : ℕ → Bool) (n : ℕ) → T (up_to f n) → (k : ℕ) → k < n → T (f k)
each f zero t k h = absurd (not-suc-le-zero h)
each f (suc n) t k h =
    ⊎_elim (λ e. subst (λ (m : ℕ). T (f m)) (sym e) (and_left (f n) (up_to f n) t))
    (λ l. each f n (and_right (f n) (up_to f n) t) k l) (eq-or-lt_of_le (le_of_suc-le-suc h))

pub each_eq : (f g : ℕ → ℕ) (n : ℕ) → T (up_to (λ k. eqb (f k) (g k)) n) → (k : ℕ) → k < n → f k ≡ g k
each_eq f g n t k h = eqb→eq (f k) (g k) (each (λ (k : ℕ). eqb (f k) (g k)) n t k h)
