-- `pair::report::lines` meets its contract. Assumes nothing.
use Rattle.pair.specs.Report.{lines_of}
use Rattle.text.proofs.Joined.{text_then}
use Rattle.pair.proofs.report.lines.Goals as goal

pub returns-in-Err-InputRefused : goal.returns-in-Err-InputRefused
unfolding lines_of
returns-in-Err-InputRefused c = let why = rw c.in-Err-InputRefused.is at c.in-Err-InputRefused.field-0-is in rw (c.in-Err-InputRefused.is, why) (text_then _ _ c.new.ensures c.word.ensures)
