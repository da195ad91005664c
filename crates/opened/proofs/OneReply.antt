-- Any two replies that a public function's promise admits are equal: read off the promises as the source states them. Assumes nothing.
use mathlib.Core.Path.{◌≡◌}
use Rattle.ground.proofs.OneReply.{one_reply}
use Rattle.opened.proofs.shape.shape_of.Reads as shape_of
use Rattle.opened.proofs.shape.has_unit.Reads as has-unit
use Rattle.opened.proofs.shape.is_word.Reads as is_is_word
use Rattle.opened.proofs.shape.has_pair.Reads as has-pair
use Rattle.opened.proofs.shape.opening_bytes.Reads as opening-bytes
use Rattle.opened.proofs.line.fresh_line.Reads as fresh-line
use Rattle.opened.proofs.drive.drive_with.Reads as drive-with
use Rattle.opened.proofs.drive.idle.Reads as idle
use Rattle.opened.proofs.shape.pair_form.Reads as pair-form
use Rattle.opened.proofs.line.outbound_of.Reads as outbound-of
use Rattle.opened.proofs.line.inbound_of.Reads as inbound-of

pub shape_of_one : (a : _) (r s : _) (x y : _) → shape_of.Post tt a r x → shape_of.Post tt a s y → r ≡ s
shape_of_one a r s x y p q = one_reply _ p q

pub has_unit_one : (a : _) (r s : _) (x y : _) → has-unit.Post tt a r x → has-unit.Post tt a s y → r ≡ s
has_unit_one a r s x y p q = one_reply _ p q

pub is_word_one : (a : _) (r s : _) (x y : _) → is_is_word.Post tt a r x → is_is_word.Post tt a s y → r ≡ s
is_word_one a r s x y p q = one_reply _ p q

pub has_pair_one : (a : _) (r s : _) (x y : _) → has-pair.Post tt a r x → has-pair.Post tt a s y → r ≡ s
has_pair_one a r s x y p q = one_reply _ p q

pub opening_bytes_one : (a : _) (r s : _) (x y : _) → opening-bytes.Post tt a r x → opening-bytes.Post tt a s y → r ≡ s
opening_bytes_one a r s x y p q = one_reply _ p.0 q.0

pub fresh_line_one : (a : _) (r s : _) (x y : _) → fresh-line.Post tt a r x → fresh-line.Post tt a s y → r ≡ s
fresh_line_one a r s x y p q = one_reply _ p q

pub drive_with_one : (a : _) (r s : _) (x y : _) → drive-with.Post tt a r x → drive-with.Post tt a s y → r ≡ s
drive_with_one a r s x y p q = one_reply _ p q

pub idle_one : (a : _) (r s : _) (x y : _) → idle.Post tt a r x → idle.Post tt a s y → r ≡ s
idle_one a r s x y p q = one_reply _ p q

pub pair_form_one : (a : _) (r s : _) (x y : _) → pair-form.Post tt a r x → pair-form.Post tt a s y → r ≡ s
pair_form_one a r s x y p q = one_reply _ p q

pub outbound_of_one : (a : _) (r s : _) (x y : _) → outbound-of.Post tt a r x → outbound-of.Post tt a s y → r ≡ s
outbound_of_one a r s x y p q = one_reply _ p q

pub inbound_of_one : (a : _) (r s : _) (x y : _) → inbound-of.Post tt a r x → inbound-of.Post tt a s y → r ≡ s
inbound_of_one a r s x y p q = one_reply _ p q
