-- `accepted` puts the header and then the entries, one by one. Assumes nothing.
use native.Mathlib.Omega.{arith}
use Rattle.book.proofs.Kept.{kept}
use Rattle.bookwords.proofs.Filled.{start, next, accepted}
use Rattle.bookwords.proofs.accepted.Goals as goal

pub loop-i-init : goal.loop-i-init
loop-i-init c = start _ _ _

pub loop-i-preserved : goal.loop-i-preserved
loop-i-preserved c =
    next _ c.loop-i.invariant c.loop-i-test.true
    c.entry_line.ensures (omega arith) c.put-at-in-loop-i.ensures.value c.put-at-in-loop-i.ensures.out_after

pub returns : goal.returns
returns c =
    let both = accepted _ c.args.out.now c.header_lines.ensures c.put-at.ensures.value c.put-at.ensures.out_after (rw c.from.ensures)
    c.loop-i.invariant c.loop-i-test.false
    in record { value = both.0; out_after = both.1 }

pub shared_ref_as_front-entries : goal.shared_ref_as_front-entries
shared_ref_as_front-entries c = let book = kept _ c.requires in let few = book.few in omega arith
