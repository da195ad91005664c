-- Each public promise admits one reply, and one final buffer: read off the promise as the source states it. Assumes nothing.
use mathlib.Core.Path.{◌≡◌}
use Rattle.ground.proofs.OneReply.{one_reply}
use Rattle.text.proofs.Text.new.Reads as new
use Rattle.text.proofs.Text.as_bytes.Reads as as_bytes
use Rattle.text.proofs.Text.push.Reads as push
use Rattle.text.proofs.Text.word.Reads as word
use Rattle.text.proofs.Text.decimal.Reads as decimal
use Rattle.text.proofs.Text.hex.Reads as hex
use Rattle.text.proofs.Text.parameters.Reads as parameters
use Rattle.text.proofs.Text.put.Reads as put

pub new_one : (a : _) (r s : _) (x y : _) → new.Post tt a r x → new.Post tt a s y → r ≡ s
new_one a r s x y p q = one_reply _ p q

pub as_bytes_one : (κs : _) (a : _) (r s : _) (x y : _) → as_bytes.Post κs a r x → as_bytes.Post κs a s y → r.now ≡ s.now
as_bytes_one κs a r s x y p q = one_reply _ p q

pub push_one : (a : _) (r s : _) (x y : _) → push.Post tt a r x → push.Post tt a s y → r ≡ s
push_one a r s x y p q = one_reply _ p q

pub word_one : (κs : _) (a : _) (r s : _) (x y : _) → word.Post κs a r x → word.Post κs a s y → r ≡ s
word_one κs a r s x y p q = one_reply _ p q

pub decimal_one : (a : _) (r s : _) (x y : _) → decimal.Post tt a r x → decimal.Post tt a s y → r ≡ s
decimal_one a r s x y p q = one_reply _ p q

pub hex_one : (a : _) (r s : _) (x y : _) → hex.Post tt a r x → hex.Post tt a s y → r ≡ s
hex_one a r s x y p q = one_reply _ p q

pub parameters_one : (a : _) (r s : _) (x y : _) → parameters.Post tt a r x → parameters.Post tt a s y → r ≡ s
parameters_one a r s x y p q = one_reply _ p q

-- the lent buffer is the second argument
pub put_one : (κs : _) (a : _) (r s : _) (x y : _) → put.Post κs a r x → put.Post κs a s y
    → (r ≡ s) × (x.1.0.now ≡ y.1.0.now)
put_one κs a r s x y p q = (one_reply _ p.0 q.0, one_reply _ p.1 q.1)
