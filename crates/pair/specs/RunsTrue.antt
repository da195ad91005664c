-- What a run is to the undamaged pair of the definitions, and so to the calls of demand 3. Assumes nothing.
use Rattle.std.specs.Prelude.{◌≡◌, true, false, ℕ, ◌≤◌, ◌<◌, max, Result, Ok}
use Rattle.book.specs.declared.Book.{Book}
use Rattle.book.specs.Kept.{book_ok}
use Rattle.protocol.specs.Exchange.{entry_of}
use Rattle.protocol.specs.Schedule.{meets, lacks_o, lacks_a, concludes_o, concludes_a}
use Rattle.protocol.specs.Slot.{started}
use Rattle.protocol.specs.Pair.{MayJoin, ProfileIn, OpenSince, shared_version}
use Rattle.protocol.specs.Joined.{Joined, idle}
use Rattle.premises.specs.Undamaged.{joined_at}
use Rattle.protocol.specs.declared.Outcome.{Outcome}
use Rattle.protocol.specs.declared.Outcome.TheVariants.{Refused}
use Rattle.pair.specs.Running.{both_concluded}
use Rattle.pair.specs.Join.{ran_of, stands_of}
use Rattle.pair.specs.declared.join.Concluded.{Concluded}
use Rattle.pair.specs.declared.join.NotJoined.{NotJoined}

-- the undamaged pair before slot t, offered no unit, leads 0100
abbrev pub pair_at : Book → Book → ℕ → ℕ → Joined
pair_at o a d = joined_at (started o) (started a) d (λ t. idle) (λ t. idle)

-- the run is that pair before the first slot before which both are open or refused, and the limits see to it that there is one
pub record Ends (o a : Book) (d : ℕ) : Type 0 where
  pub slot : ℕ
  pub by : slot ≤ max o.limit a.limit
  pub is : ran_of o a d ≡ pair_at o a d slot
  pub over : both_concluded (pair_at o a d slot) ≡ true
  pub first : (t : ℕ) → t < slot → both_concluded (pair_at o a d t) ≡ false

-- both ends have concluded, each so
pub record Conclude (HowO HowA : Outcome → Type 0) (j : Result Concluded NotJoined) : Type 0 where
  pub o : Outcome
  pub a : Outcome
  pub is : j ≡ Ok (record { o = o; a = a })
  pub how_o : HowO o
  pub how_a : HowA a

-- two books that may be joined open or refuse as demand 3 says
pub record RunConcludes (d : ℕ) (o a : Book) : Type 0 where
  pub opens : (shared_version o a ≡ 0 → ⊥) → ProfileIn o a
      → Conclude (OpenSince (concludes_o (meets d) d o a) (shared_version o a) (entry_of o 0))
      (OpenSince (concludes_a (meets d) d o a) (shared_version o a) (entry_of o 0)) (stands_of (ran_of o a d))
  pub no_version : shared_version o a ≡ 0
      → stands_of (ran_of o a d) ≡ Ok (record { o = Refused 21 (lacks_o (meets d) d); a = Refused 21 (lacks_a (meets d) d) })
  pub no_profile : (shared_version o a ≡ 0 → ⊥) → (ProfileIn o a → ⊥)
      → stands_of (ran_of o a d)
      ≡ Ok (record { o = Refused 22 (concludes_o (meets d) d o a); a = Refused 22 (concludes_a (meets d) d o a) })

pub record RunsTrue : Type 0 where
  pub ends : (o a : Book) → book_ok o ≡ true → book_ok a ≡ true → (d : ℕ) → Ends o a d
  pub concludes : (d : ℕ) (o a : Book) → MayJoin d o a → RunConcludes d o a
