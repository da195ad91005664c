-- The joined pair, run undamaged until both ends are open or refused. Assumes nothing.
use Rattle.std.specs.Prelude.{Bool, true, false, cond, ◌&&◌, ℕ, zero, suc}
use Rattle.protocol.specs.Joined.{Joined, idle, joined_slot}
use Rattle.protocol.specs.Slot.{outcome_of}
use Rattle.protocol.specs.declared.Outcome.{Outcome}
use Rattle.protocol.specs.declared.Outcome.TheVariants.{Exchanging, Open, Refused}

-- open or refused
abbrev pub has_concluded : Outcome → Bool
has_concluded Exchanging = false
has_concluded (Open version profile slot signals) = true
has_concluded (Refused number slot) = true

abbrev pub both_concluded : Joined → Bool
both_concluded j = has_concluded (outcome_of j.o) && has_concluded (outcome_of j.a)

-- the pair after the slot in which the second of them concludes, or after n slots
unfoldable pub ran_for : ℕ → Joined → Joined
ran_for zero j = j
ran_for (suc n) j = cond (both_concluded j) j (ran_for n (joined_slot idle idle j))
