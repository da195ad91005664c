use mathlib.Core.Path.{◌≡◌}
use lib.ListN.{drop}
use Rattle.text.specs.Text.{appended}
use Rattle.text.proofs.Text.word.Given as goal

abbrev pub invariant-loop-c : goal.invariant-loop-c
invariant-loop-c l = appended l.initial.written l.w ≡ appended l.written (drop l.c-index l.w)
