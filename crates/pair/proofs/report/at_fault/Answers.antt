-- `pair::report::at_fault` meets its contract. Assumes nothing.
use Rattle.pair.specs.Report.{at_fault}
use Rattle.text.proofs.Joined.{appended_append}
use Rattle.pair.proofs.report.at_fault.Goals as goal

pub returns : goal.returns
unfolding at_fault
returns c = simp (c.word-2.ensures, c.decimal.ensures, c.from.ensures, c.number.ensures, c.word.ensures, ← appended_append)
