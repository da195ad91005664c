-- Any two replies that a public function's promise admits are equal: read off the promises as the source states them. Assumes nothing.
use mathlib.Core.Path.{◌≡◌}
use Rattle.ground.proofs.OneReply.{one_reply}
use Rattle.exchange.proofs.turn.first_exchange.Reads as first-exchange
use Rattle.exchange.proofs.turn.turn.Reads as turn

pub first_exchange_one : (a : _) (r s : _) (x y : _) → first-exchange.Post tt a r x → first-exchange.Post tt a s y → r ≡ s
first_exchange_one a r s x y p q = one_reply _ p q

pub turn_one : (a : _) (r s : _) (x y : _) → turn.Post tt a r x → turn.Post tt a s y → r ≡ s
turn_one a r s x y p q = one_reply _ p q
