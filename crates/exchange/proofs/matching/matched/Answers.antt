-- `exchange::matching::matched` meets its contract. Assumes nothing.
use mathlib.Core.Path.{◌≡◌, sym, ◌∙◌}
use native.Mathlib.Omega.{arith}
use Rattle.exchange.proofs.MatchedOn.{match_here, match_below, match_none}
use Rattle.exchange.proofs.matching.matched.Goals as goal

pub returns-then-matches : goal.returns-then-matches
returns-then-matches c = rw (← c.heard_params-values.ensures)
    (sym (c.loop-i.invariant
    ∙ match_here _ _ _ _ c.loop-i-test.true (simp c.entry_of.ensures at (sym c.matches.ensures ∙ c.if-matches.true))))

pub loop-i-preserved : goal.loop-i-preserved
loop-i-preserved c = c.loop-i.invariant
    ∙ match_below _ _ _ _ c.loop-i-test.true (simp c.entry_of.ensures at (sym c.matches.ensures ∙ c.if-matches.false))

pub returns : goal.returns
returns c = let e : c.loop-i.i ≡ 0 = omega arith in rw (← c.heard_params-values.ensures, c.loop-i.invariant, e, match_none)
