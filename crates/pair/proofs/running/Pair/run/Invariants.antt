use mathlib.Core.Path.{◌≡◌}
use Prim.Native.Nat.{◌-◌}
use Rattle.pair.specs.Running.{ran_for}
use Rattle.pair.specs.Rings.{pair_in}
use Rattle.pair.proofs.running.Pair.run.Given as goal

abbrev pub invariant-loop : goal.invariant-loop
invariant-loop l = ran_for l.most (pair_in l.initial.self) ≡ ran_for (l.most - l.counter) (pair_in l.self)
