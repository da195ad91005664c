-- Any two replies that the public function's promise admits are equal, and any two final buffers: read off the promise as the source states
-- it. Assumes nothing.
use mathlib.Core.Path.{◌≡◌}
use Rattle.ground.proofs.OneReply.{one_reply}
use Rattle.bookwords.proofs.told.Reads as told

-- the lent buffer is the second argument
pub told_one : (κs : _) (a : _) (r s : _) (x y : _) → told.Post κs a r x → told.Post κs a s y
    → (r ≡ s) × (x.1.0.now ≡ y.1.0.now)
told_one κs a r s x y p q = (one_reply _ p.0 q.0, one_reply _ p.1 q.1)
