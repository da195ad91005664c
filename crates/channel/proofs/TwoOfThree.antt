-- Where at every bit at least two of three copies are as sent, the vote is what was sent. Assumes nothing.
use mathlib.Core.Path.{◌≡◌, sym, ◌∙◌}
use mathlib.Core.Bool.{cond}
use Prim.Native.Nat.{ℕ, ◌+◌, ◌≤◌, ◌<◌}
use native.Mathlib.Omega.{arith}
use lib.Dec.{eqb, leb}
use borrow.Author.Tests.{le-leb}
use Rattle.ground.specs.Digits.{bit}
use Rattle.ground.proofs.Each.{up_to, each, each_eq}
use Rattle.channel.specs.Vote.{majority, voted, as_sent}
use Rattle.channel.proofs.Majority.{vote_by_bits}

-- of bits
abbrev counted : ℕ → ℕ → ℕ → ℕ → ℕ
counted x y z w = cond (leb 2 (cond (eqb x w) 1 0 + cond (eqb y w) 1 0 + cond (eqb z w) 1 0)) (majority x y z) w

counted_is : (x y z w : ℕ) → x < 2 → y < 2 → z < 2 → w < 2 → counted x y z w ≡ w
counted_is x y z w p q r s =
    each_eq (counted x y z) (λ w. w) 2
    (each (λ z. up_to (λ w. eqb (counted x y z w) w) 2) 2
    (each (λ y. up_to (λ z. up_to (λ w. eqb (counted x y z w) w) 2) 2) 2
    (each (λ x. up_to (λ y. up_to (λ z. up_to (λ w. eqb (counted x y z w) w) 2) 2) 2) 2 tt x p) y q) z r) w s

of_bits : (x y z w : ℕ) → x < 2 → y < 2 → z < 2 → w < 2 → 2 ≤ cond (eqb x w) 1 0 + cond (eqb y w) 1 0 + cond (eqb z w) 1 0 → majority x y z ≡ w
of_bits x y z w p q r s h = sym (rw (le-leb 2 _ h)) ∙ counted_is x y z w p q r s

pub two_of_three : (a b c v : ℕ) → v < 256 → ((i : ℕ) → i < 8 → 2 ≤ as_sent i a v + as_sent i b v + as_sent i c v) → voted a b c ≡ v
two_of_three a b c v l h =
    sym (vote_by_bits a b c v l
    (λ i hi. sym (of_bits (bit i a) (bit i b) (bit i c) (bit i v) (omega arith) (omega arith) (omega arith) (omega arith) (h i hi))))
