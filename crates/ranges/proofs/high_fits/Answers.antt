-- `high_fits`: a word of w bits has w - 4 in its high nibble. Assumes nothing.
use mathlib.Core.Path.{◌∙◌}
use borrow.Author.Rules.{rules}
use Rattle.ranges.proofs.HighNibble.{no_high, high_within}
use Rattle.ranges.proofs.high_fits.Goals as goal

pub returns-then-w-lt4 : goal.returns-then-w-lt4
returns-then-w-lt4 c = no_high _ _ (search rules)

pub returns-else-w-lt4 : goal.returns-else-w-lt4
returns-else-w-lt4 c = c.word_fits.ensures ∙ high_within _ _ (search rules)
