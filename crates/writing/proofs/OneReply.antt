-- Any two replies that a public function's promise admits are equal: read off the promises as the source states them. Assumes nothing.
use mathlib.Core.Path.{◌≡◌}
use Rattle.ground.proofs.OneReply.{one_reply}
use Rattle.writing.proofs.writing.Reads as writing
use Rattle.writing.proofs.first_written.Reads as first-written

pub writing_one : (a : _) (r s : _) (x y : _) → writing.Post tt a r x → writing.Post tt a s y → r ≡ s
writing_one a r s x y p q = one_reply _ p q

pub first_written_one : (a : _) (r s : _) (x y : _) → first-written.Post tt a r x → first-written.Post tt a s y → r ≡ s
first_written_one a r s x y p q = one_reply _ p q
