-- `packing::numbers::Numbers::regroup` meets its contract: each turn of its loops keeps what `Turns` says. Assumes nothing.
use borrow.Author.Rules.{rules}
use Rattle.packing.proofs.Turns.{read, pad, emit_hand, emit_written, finish}
use Rattle.packing.proofs.numbers.Numbers.regroup.Goals as goal

pub loop-have-preserved-in-Some : goal.loop-have-preserved-in-Some
loop-have-preserved-in-Some c =
    let first = c.in-Some.ensures.cases.0 in read c.loop-have.invariant first c.from.ensures (search rules) (search rules)

pub loop-have-preserved : goal.loop-have-preserved
loop-have-preserved c = pad c.loop-have.invariant c.in_default.ensures.cases c.loop-have-test.true (search rules)

pub loop-d-preserved : goal.loop-d-preserved
loop-d-preserved c =
    record {
      hand = emit_hand c.loop-have.invariant _ _ c.values-base.ensures c.loop-have-test.false;
      written = emit_written c.loop-have.invariant _ _ c.values-base.ensures c.loop-have-test.false c.loop-d.invariant.written (search rules);
    }

pub returns : goal.returns
returns c = finish c.loop-d.invariant.written (search rules) (search rules)
