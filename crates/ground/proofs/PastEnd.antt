-- Past the end of a list nothing is written. Assumes nothing.
use mathlib.Core.Path.{◌≡◌}
use mathlib.Core.List.{List}
use Prim.Native.Nat.{ℕ, ◌≤◌}
use lib.ListN.{length, set}
use lib.Seq.{set_out}

pub written_past : {A : Type 0} (xs : List A) {n : ℕ} (i : ℕ) (x : A) → length xs ≡ n → n ≤ i → set xs i x ≡ xs
written_past xs i x e h = let l : length xs ≤ i = rw e h in set_out xs i x l
