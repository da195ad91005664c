-- Any two replies that a public function's promise admits are equal: read off the promise as the source states it. Assumes nothing.
use mathlib.Core.Path.{◌≡◌}
use Rattle.ground.proofs.OneReply.{one_reply}
use Rattle.ranges.proofs.phase_in.Reads as phase_in_lem

pub phase_in_one : (a : _) (r s : _) (x y : _) → phase_in_lem.Post tt a r x → phase_in_lem.Post tt a s y → r ≡ s
phase_in_one a r s x y p q = one_reply _ p q
