-- The promises of `tell`, of `is_argument`, and of a program's `explains` and `ends` admit one reply: read off each promise as the source
-- states it. Assumes nothing.
use mathlib.Core.Path.{◌≡◌}
use Rattle.ground.proofs.OneReply.{one_reply}
use Rattle.console.proofs.tell.Reads as tell
use Rattle.console.proofs.is_argument.Reads as is_argument
use Rattle.console.proofs.Program.explains.Reads as explains
use Rattle.console.proofs.Program.ends.Reads as ends

-- whatever writer the line is told to
pub tell_one : (W : _) (laws : _) (g : _) (d : _) (κs : _) (a : _) (r s : _) (x y : _)
    → tell.Post W laws g d κs a r x → tell.Post W laws g d κs a s y → r ≡ s
tell_one W laws g d κs a r s x y p q = one_reply _ p q

pub is_argument_one : (κs : _) (a : _) (r s : _) (x y : _) → is_argument.Post κs a r x → is_argument.Post κs a s y → r ≡ s
is_argument_one κs a r s x y p q = one_reply _ p q

pub explains_one : (W : _) (laws : _) (g : _) (d : _) (κs : _) (a : _) (r s : _) (x y : _)
    → explains.Post W laws g d κs a r x → explains.Post W laws g d κs a s y → r ≡ s
explains_one W laws g d κs a r s x y p q = one_reply _ p q

pub ends_one : (W : _) (laws : _) (g : _) (d : _) (κs : _) (a : _) (r s : _) (x y : _)
    → ends.Post W laws g d κs a r x → ends.Post W laws g d κs a s y → r ≡ s
ends_one W laws g d κs a r s x y p q = one_reply _ p q
