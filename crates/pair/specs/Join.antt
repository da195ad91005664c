-- Two books joined over a delay: what is refused, and how both ends conclude. Assumes nothing.
use Rattle.std.specs.Prelude.{Bool, cond, not, ◌&&◌, List, ℕ, max, eqb, Result, Ok, Err}
use Rattle.book.specs.Book.{originating, answering, book_of}
use Rattle.book.specs.Refusals.{Verdict, book_fault}
use Rattle.book.specs.declared.Book.{Book}
use Rattle.protocol.specs.Slot.{started, outcome_of}
use Rattle.protocol.specs.Joined.{Joined, joined}
use Rattle.pair.specs.Running.{ran_for}
use Rattle.pair.specs.declared.join.Concluded.{Concluded}
use Rattle.pair.specs.declared.join.NotJoined.{NotJoined}
use Rattle.pair.specs.declared.join.NotJoined.TheVariants.{InputRefused, RefusedO, RefusedA, WrongRole}

abbrev pub right_roles : Book → Book → Bool
right_roles o a = eqb o.role originating && eqb a.role answering

-- the pair as it has run until both are open or refused, for which the larger of the limits is enough
abbrev pub ran_of : Book → Book → ℕ → Joined
ran_of o a d = ran_for (max o.limit a.limit) (joined (started o) (started a) d)

abbrev pub concluded_of : Joined → Concluded
concluded_of j = record { o = outcome_of j.o; a = outcome_of j.a }

abbrev pub stands_of : Joined → Result Concluded NotJoined
stands_of j = Ok (concluded_of j)

-- a book at fault, O alone where both are; then a wrong role
abbrev pub joins : Verdict → Verdict → Book → Book → ℕ → Result Concluded NotJoined
joins (Err f) v o a d = Err (RefusedO f.refusal)
joins (Ok _) (Err f) o a d = Err (RefusedA f.refusal)
joins (Ok _) (Ok _) o a d = cond (not (right_roles o a)) (Err WrongRole) (stands_of (ran_of o a d))

-- a delay of 0 before all that
unfoldable pub join_of : List ℕ → List ℕ → ℕ → Result Concluded NotJoined
join_of o a d = cond (eqb d 0) (Err InputRefused) (joins (book_fault o) (book_fault a) (book_of o) (book_of a) d)
