-- Any two replies that a public function's promise admits are equal: read off the promises as the source states them. Assumes nothing.
use mathlib.Core.Path.{◌≡◌}
use Rattle.ground.proofs.OneReply.{one_reply}
use Rattle.book.proofs.Entry.params.Reads as params
use Rattle.book.proofs.Refusal.number.Reads as refusal-number
use Rattle.book.proofs.number.Reads as number
use Rattle.book.proofs.offset.Reads as offset
use Rattle.book.proofs.read_book.Reads as read-book
use Rattle.book.proofs.book_ok.Reads as book-ok
use Rattle.book.proofs.entry_part.Reads as entry-part

pub params_one : (a : _) (r s : _) (x y : _) → params.Post tt a r x → params.Post tt a s y → r ≡ s
params_one a r s x y p q = one_reply _ p q

pub refusal_number_one : (a : _) (r s : _) (x y : _) → refusal-number.Post tt a r x → refusal-number.Post tt a s y → r ≡ s
refusal_number_one a r s x y p q = one_reply _ p q

pub number_one : (a : _) (r s : _) (x y : _) → number.Post tt a r x → number.Post tt a s y → r ≡ s
number_one a r s x y p q = one_reply _ p q

pub offset_one : (a : _) (r s : _) (x y : _) → offset.Post tt a r x → offset.Post tt a s y → r ≡ s
offset_one a r s x y p q = one_reply _ p q

pub read_book_one : (κs : _) (a : _) (r s : _) (x y : _) → read-book.Post κs a r x → read-book.Post κs a s y → r ≡ s
read_book_one κs a r s x y p q = one_reply _ p.0 q.0

pub book_ok_one : (a : _) (r s : _) (x y : _) → book-ok.Post tt a r x → book-ok.Post tt a s y → r ≡ s
book_ok_one a r s x y p q = one_reply _ p q

-- the same bytes at the same place
pub entry_part_one : (κs : _) (a : _) (r s : _) (x y : _) → entry-part.Post κs a r x → entry-part.Post κs a s y
    → (r.now ≡ s.now) × (r.ref_ptr ≡ s.ref_ptr)
entry_part_one κs a r s x y p q = (one_reply _ p.0 q.0, one_reply _ p.1 q.1)
