use mathlib.Core.Path.{◌≡◌}
use mathlib.Core.List.{[]}
use lib.ListN.{take, drop}
use Rattle.book.specs.Refusals.{each_fault}
use Rattle.book.proofs.checks.entries_fault.Given as goal

abbrev pub invariant-loop-i : goal.invariant-loop-i
invariant-loop-i l = each_fault l.version l.mask [] l.es ≡ each_fault l.version l.mask (take l.i l.es) (drop l.i l.es)
