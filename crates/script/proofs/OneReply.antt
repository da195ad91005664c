-- Any two replies that a public function's promise admits are equal, and any two final buffers: read off the promise as the source states it.
-- Assumes nothing.
use mathlib.Core.Path.{◌≡◌}
use Rattle.ground.proofs.OneReply.{one_reply}
use Rattle.script.proofs.line.line.Reads as line
use Rattle.script.proofs.run.Reads as run

pub line_one : (a : _) (r s : _) (x y : _) → line.Post tt a r x → line.Post tt a s y → r ≡ s
line_one a r s x y p q = one_reply _ p q

-- the lent buffer is the second argument
pub run_one : (κs : _) (a : _) (r s : _) (x y : _) → run.Post κs a r x → run.Post κs a s y
    → (r ≡ s) × (x.1.0.now ≡ y.1.0.now)
run_one κs a r s x y p q = (one_reply _ p.0 q.0, one_reply _ p.1 q.1)
