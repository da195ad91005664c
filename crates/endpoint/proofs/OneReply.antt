-- Any two replies that a public function's promise admits are equal: read off the promises as the source states them. Assumes nothing.
use mathlib.Core.Path.{◌≡◌}
use Rattle.ground.proofs.OneReply.{one_reply}
use Rattle.endpoint.proofs.slot.outcome.Reads as outcome
use Rattle.endpoint.proofs.slot.well_formed.Reads as well-formed
use Rattle.endpoint.proofs.slot.slot.Reads as slot
use Rattle.endpoint.proofs.start.start.Reads as start

pub outcome_one : (a : _) (r s : _) (x y : _) → outcome.Post tt a r x → outcome.Post tt a s y → r ≡ s
outcome_one a r s x y p q = one_reply _ p.0 q.0

pub well_formed_one : (a : _) (r s : _) (x y : _) → well-formed.Post tt a r x → well-formed.Post tt a s y → r ≡ s
well_formed_one a r s x y p q = one_reply _ p q

pub slot_one : (a : _) (r s : _) (x y : _) → slot.Post tt a r x → slot.Post tt a s y → r ≡ s
slot_one a r s x y p q = one_reply _ p.0 q.0

pub start_one : (κs : _) (a : _) (r s : _) (x y : _) → start.Post κs a r x → start.Post κs a s y → r ≡ s
start_one κs a r s x y p q = one_reply _ p.0 q.0
