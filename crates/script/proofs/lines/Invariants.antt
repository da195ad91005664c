use Rattle.script.proofs.Telling.{Telling}
use Rattle.script.proofs.lines.Given as goal

abbrev pub invariant-loop-place : goal.invariant-loop-place
invariant-loop-place l = Telling l.script.slots.now l.fn.begun l.initial.out l.out l.e l.place-iterator.a.start l.place-iterator.b.rest.now l.at
