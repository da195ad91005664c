-- Any two replies that a public function's promise admits are equal: read off the promises as the source states them. Assumes nothing.
use mathlib.Core.Path.{◌≡◌}
use Rattle.ground.proofs.OneReply.{one_reply}
use Rattle.collecting.proofs.hearing.item_of.Reads as item_of
use Rattle.collecting.proofs.hearing.awaits_hail.Reads as awaits-hail
use Rattle.collecting.proofs.hearing.has_identifier.Reads as has-identifier
use Rattle.collecting.proofs.hearing.has_all.Reads as Has-All
use Rattle.collecting.proofs.kept_book.originates.Reads as originates
use Rattle.collecting.proofs.kept_book.entry_of.Reads as entry_of
use Rattle.collecting.proofs.kept_book.identifier.Reads as identifier
use Rattle.collecting.proofs.kept_book.left_out.Reads as left_out
use Rattle.collecting.proofs.lengths.run_length.Reads as run_length
use Rattle.collecting.proofs.lengths.all_parameter_bytes.Reads as all-parameter-bytes
use Rattle.collecting.proofs.hearing.hear.Reads as hear
use Rattle.collecting.proofs.lengths.parameter_lead.Reads as parameter-lead
use Rattle.collecting.proofs.lengths.parameter_bytes.Reads as parameter-bytes

pub item_of_one : (a : _) (r s : _) (x y : _) → item_of.Post tt a r x → item_of.Post tt a s y → r ≡ s
item_of_one a r s x y p q = one_reply _ p q

pub awaits_hail_one : (a : _) (r s : _) (x y : _) → awaits-hail.Post tt a r x → awaits-hail.Post tt a s y → r ≡ s
awaits_hail_one a r s x y p q = one_reply _ p q

pub has_identifier_one : (a : _) (r s : _) (x y : _) → has-identifier.Post tt a r x → has-identifier.Post tt a s y → r ≡ s
has_identifier_one a r s x y p q = one_reply _ p q

pub has_all_one : (a : _) (r s : _) (x y : _) → Has-All.Post tt a r x → Has-All.Post tt a s y → r ≡ s
has_all_one a r s x y p q = one_reply _ p q

pub originates_one : (a : _) (r s : _) (x y : _) → originates.Post tt a r x → originates.Post tt a s y → r ≡ s
originates_one a r s x y p q = one_reply _ p q

pub entry_of_one : (a : _) (r s : _) (x y : _) → entry_of.Post tt a r x → entry_of.Post tt a s y → r ≡ s
entry_of_one a r s x y p q = one_reply _ p q

pub identifier_one : (a : _) (r s : _) (x y : _) → identifier.Post tt a r x → identifier.Post tt a s y → r ≡ s
identifier_one a r s x y p q = one_reply _ p q

pub left_out_one : (a : _) (r s : _) (x y : _) → left_out.Post tt a r x → left_out.Post tt a s y → r ≡ s
left_out_one a r s x y p q = one_reply _ p q

pub run_length_one : (a : _) (r s : _) (x y : _) → run_length.Post tt a r x → run_length.Post tt a s y → r ≡ s
run_length_one a r s x y p q = one_reply _ p q

pub all_parameter_bytes_one : (a : _) (r s : _) (x y : _) → all-parameter-bytes.Post tt a r x → all-parameter-bytes.Post tt a s y → r ≡ s
all_parameter_bytes_one a r s x y p q = one_reply _ p q

pub hear_one : (a : _) (r s : _) (x y : _) → hear.Post tt a r x → hear.Post tt a s y → r ≡ s
hear_one a r s x y p q = one_reply _ p q

pub parameter_lead_one : (a : _) (r s : _) (x y : _) → parameter-lead.Post tt a r x → parameter-lead.Post tt a s y → r ≡ s
parameter_lead_one a r s x y p q = one_reply _ p q

pub parameter_bytes_one : (a : _) (r s : _) (x y : _) → parameter-bytes.Post tt a r x → parameter-bytes.Post tt a s y → r ≡ s
parameter_bytes_one a r s x y p q = one_reply _ p q
