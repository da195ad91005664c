-- `all_below`: the iterator's answer, in the definition's word. Assumes nothing.
use mathlib.Core.Path.{◌∙◌}
use lib.Dec.{ltb}
use borrow.Author.Rules.{rules}
use borrow.Author.Tests.{tests}
use Rattle.std.proofs.lemmas.Iterator.{YieldsList-from_slice}
use Rattle.std.proofs.lemmas.Iterator.Adapters.{YieldsList-from_skip}
use Rattle.std.proofs.lemmas.Iterator.Search.{all_from_yields_List}
use Rattle.ranges.proofs.AllBelow.{list_all-below}
use Rattle.ranges.proofs.all_below.Goals as goal

pub returns : goal.returns
returns c = all_from_yields_List (λ x. ltb x c.args.limit) _ _ _ c.all.ensures.ran
    (YieldsList-from_skip _ (YieldsList-from_slice c.args.xs (cc)) (cc)) (λ x b q k. search (rules, tests))
    ∙ list_all-below _ _
