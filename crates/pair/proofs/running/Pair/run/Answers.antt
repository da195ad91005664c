-- `pair::running::Pair::run` meets its contract. Assumes nothing.
use mathlib.Core.Path.{◌≡◌, sym, ◌∙◌}
use Prim.Native.Nat.{◌-◌}
use native.Mathlib.Omega.{arith}
use Rattle.pair.proofs.UntilConcluded.{ran_over}
use Rattle.pair.proofs.running.Pair.run.Goals as goal

pub returns : goal.returns
returns c = let none : c.args.most - c.loop.counter ≡ 0 = omega arith in sym (c.loop.invariant ∙ rw none (ran_over _))
