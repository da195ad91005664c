-- `pair::running::Ring::new` meets its contract. Assumes nothing.
use borrow.Author.Rules.{rules}
use Rattle.pair.proofs.Rings.{idle_ring}
use Rattle.pair.proofs.running.Ring.new.Goals as goal

pub returns : goal.returns
returns c = rw (c.from.ensures, c.get.ensures.value) (idle_ring _ _ (search rules))
