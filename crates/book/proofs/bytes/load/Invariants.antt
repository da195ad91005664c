use mathlib.Core.Path.{◌≡◌}
use Rattle.book.specs.Book.{kept_entries}
use Rattle.book.proofs.bytes.load.Given as goal

abbrev pub invariant-loop-i : goal.invariant-loop-i
invariant-loop-i l = l.es ≡ kept_entries l.version l.s l.i
