-- `script::lines` meets its contract. Assumes nothing.
use mathlib.Core.Path.{ap, ◌∙◌}
use native.Mathlib.Omega.{arith}
use lib.ListN.{length}
use Rattle.script.proofs.Telling.{start, next, finish}
use Rattle.script.proofs.lines.Goals as goal

pub loop-place-init : goal.loop-place-init
loop-place-init c =
    let all = c.zip-place-items.ensures.second.0 in
    rw (c.into_iter-place-iterator.ensures.into_iter_gives, c.zip-place-items.ensures.first)
    (start _ _ _ c.args.script.short (all ∙ c.as_chunks.ensures.front) (ap length all ∙ c.as_chunks.ensures.front_len))

pub loop-place-preserved : goal.loop-place-preserved
loop-place-preserved c =
    let turn = c.in-Some.ensures.steps in
    rw (turn.0.1, turn.0.0)
    (next c.loop-place.invariant turn.1 c.drive.ensures c.slot-answer.ensures.value c.outcome.ensures.value (rw turn.0.0 at c.line-told.ensures)
    c.put-at.ensures.value c.put-at.ensures.out_after)

pub returns : goal.returns
returns c =
    let both = finish c.loop-place.invariant (omega (arith, c.in-None.ensures.steps)) in
    record { value = both.0; out_after = both.1 }
