use Prim.Native.Nat.{◌-◌}
use Rattle.packing.proofs.Turns.{held, Hand, Written}
use Rattle.packing.proofs.numbers.Numbers.regroup.Given as goal

abbrev pub invariant-loop-d : goal.invariant-loop-d
invariant-loop-d l = let a = l.self.width.bits in
    record {
      hand : Hand a l.acc l.have l.rest (held a l.acc l.have l.rest);
      written : Written a l.b.bits l.self.all.now l.initial.dst l.dst l.d-index (held a l.acc l.have l.rest);
    }

abbrev pub invariant-loop-have : goal.invariant-loop-have
invariant-loop-have l = let a = l.self.width.bits in
    Hand a l.acc l.have l.rest (held a l.initial.acc l.initial.have l.initial.rest)

abbrev pub decreases-loop-have : goal.decreases-loop-have
decreases-loop-have l = l.b.bits - l.have
