-- The run, slot by slot. Assumes nothing.
use mathlib.Core.Path.{◌≡◌, refl}
use mathlib.Core.Bool.{true, false}
use Prim.Native.Nat.{ℕ, zero, suc}
use Rattle.protocol.specs.Joined.{Joined, idle, joined_slot}
use Rattle.pair.specs.Running.{both_concluded, ran_for}

-- once both have concluded the run stands still
pub ran_stops : (n : ℕ) (j : Joined) → both_concluded j ≡ true → ran_for n j ≡ j
unfolding ran_for
ran_stops zero j c = refl
ran_stops (suc n) j c = rw c

-- until then it goes on by a slot
pub ran_on : (n m : ℕ) (j : Joined) → n ≡ suc m → both_concluded j ≡ false → ran_for n j ≡ ran_for m (joined_slot idle idle j)
unfolding ran_for
ran_on n m j e c = rw (e, c)

pub ran_over : (j : Joined) → ran_for 0 j ≡ j
unfolding ran_for
ran_over j = refl

pub ruleset run_steps = (ran_stops, ran_on)
