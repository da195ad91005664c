-- `packing::numbers::Numbers::not_whole` meets its contract: what it tests is what `Whole` says of the count and the last unit. Assumes nothing.
use native.Mathlib.Omega.{arith}
use borrow.Author.Rules.{rules}
use lib.ListN.{length}
use Rattle.packing.proofs.Counts.{octets_few}
use Rattle.packing.proofs.Shift.{one_shl}
use Rattle.packing.proofs.Whole.{no_units, last_unit}
use Rattle.packing.proofs.numbers.Numbers.not_whole.Goals as goal

pub units_for-due-requires : goal.units_for-due-requires
units_for-due-requires c = omega (arith, c.octets_in-n.ensures, octets_few c.args.self.width.bits (length c.args.self.all.now) (search rules))

pub returns-in-Some : goal.returns-in-Some
returns-in-Some c =
    let s = c.args.self in
    last_unit s.width.bits s.all.now _ _ c.octets_in-n.ensures c.units_for-due.ensures c.if-u-due.false _ _ (search rules) (search rules) (search rules)
    (search rules) (one_shl _ (omega arith))

pub returns-in-None : goal.returns-in-None
returns-in-None c = search (no_units, rules)
