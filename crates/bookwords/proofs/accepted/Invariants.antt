use Rattle.bookwords.proofs.Filled.{Telling}
use Rattle.bookwords.proofs.accepted.Given as goal

abbrev pub invariant-loop-i : goal.invariant-loop-i
invariant-loop-i l = Telling l.entries l.initial.out l.initial.at l.i l.out l.at
