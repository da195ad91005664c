-- The promise of `SlotRefusal::number` admits one reply: read off the promise as the source states it. Assumes nothing.
use mathlib.Core.Path.{◌≡◌}
use Rattle.ground.proofs.OneReply.{one_reply}
use Rattle.protocol.proofs.SlotRefusal.number.Reads as number

pub number_one : (a : _) (r s : _) (x y : _) → number.Post tt a r x → number.Post tt a s y → r ≡ s
number_one a r s x y p q = one_reply _ p q
