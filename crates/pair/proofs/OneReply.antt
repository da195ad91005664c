-- Any two replies that a public promise admits are equal: read off the promise as the source states it. Assumes nothing.
use mathlib.Core.Path.{◌≡◌}
use Rattle.ground.proofs.OneReply.{one_reply}
use Rattle.pair.proofs.join.join.Reads as join
use Rattle.pair.proofs.report.report.Reads as report

pub join_one : (κs : _) (a : _) (r s : _) (x y : _) → join.Post κs a r x → join.Post κs a s y → r ≡ s
join_one κs a r s x y p q = one_reply _ p q

pub report_one : (κs : _) (a : _) (r s : _) (x y : _) → report.Post κs a r x → report.Post κs a s y → r ≡ s
report_one κs a r s x y p q = one_reply _ p q
