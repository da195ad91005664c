-- `checked` loads as many entries as the values allow and the length holds. Assumes nothing.
use mathlib.Core.Path.{sym, ◌∙◌}
use native.Mathlib.Omega.{arith}
use Rattle.book.proofs.NothingWrong.{valued, sized}
use Rattle.book.proofs.checked.Goals as goal

pub load-book-requires : goal.load-book-requires
load-book-requires c =
    let v = valued c.values-book.result (sym c.values_fault.ensures ∙ c.in_ok-values_fault.was) in
    let l = sized c.version_in-version.result c.args.s.now c.values-book.result.n (sym c.length_fault.ensures ∙ c.in_ok-length_fault.was) in
    (omega arith, omega arith)
