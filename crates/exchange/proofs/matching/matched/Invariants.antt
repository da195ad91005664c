use mathlib.Core.Path.{◌≡◌}
use Rattle.protocol.specs.Exchange.{match_in}
use Rattle.exchange.proofs.matching.matched.Given as goal

abbrev pub invariant-loop-i : goal.invariant-loop-i
invariant-loop-i l = match_in l.version l.b.entries l.values l.b.n ≡ match_in l.version l.b.entries l.values l.i
