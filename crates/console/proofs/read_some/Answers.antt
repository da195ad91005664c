-- `console::read_some` meets its contract. Assumes nothing.
use Rattle.console.proofs.Reading.{within, ends, gives}
use Rattle.console.proofs.read_some.Goals as goal

pub returns : goal.returns
returns g c = record {
  within = rw c.came.ensures (within _ _);
  bytes = rw c.came.ensures (gives _ _ _ _ c.read-read.ensures.bound c.read-read.ensures.bytes);
  end = rw c.came.ensures (ends _ _ _ _ c.read-read.ensures.bytes);
}
