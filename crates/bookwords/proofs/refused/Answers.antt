-- `refused` puts the line of a refusal. Assumes nothing.
use Rattle.bookwords.proofs.Filled.{named_line, refusal}
use Rattle.bookwords.proofs.refused.Goals as goal

pub returns : goal.returns
returns c = let both = refusal _ c.args.out.now c.fault_at.ensures c.put-at.ensures.value c.put-at.ensures.out_after
    (named_line _ c.new.ensures c.fault_named.ensures c.word-named.ensures)
    c.put.ensures.value c.put.ensures.out_after in record { value = both.0; out_after = both.1 }
