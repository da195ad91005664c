-- Any two replies that a public function's promise admits are equal: read off the promises as the source states them. Assumes nothing.
use mathlib.Core.Path.{◌≡◌}
use Rattle.ground.proofs.OneReply.{one_reply}
use Rattle.reading.proofs.reading.Reads as reading

pub reading_one : (a : _) (r s : _) (x y : _) → reading.Post tt a r x → reading.Post tt a s y → r ≡ s
reading_one a r s x y p q = one_reply _ p.0 q.0
