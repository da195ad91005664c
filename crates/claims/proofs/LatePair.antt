-- What is promised of two ends of which one starts e slots after the other holds, and its premises are met. Assumes nothing.
use mathlib.Core.Path.{◌≡◌, refl}
use mathlib.Core.Bool.{Bool, true, false}
use mathlib.Core.Logic.{◌⊎◌, inl, inr}
use Prim.Native.Nat.{ℕ}
use native.Mathlib.Omega.{arith}
use lib.Dec.{eqb}
use borrow.Author.Tests.{eqb-true, eqb-false}
use Rattle.book.specs.declared.Book.{Book}
use Rattle.protocol.specs.Lengths.{parameter_lead}
use Rattle.protocol.specs.Sent.{byte_sent}
use Rattle.protocol.specs.Pair.{ProfileIn, shared_version}
use Rattle.protocol.specs.Late.{Later, OriginatorLater, AnswererLater, JoinedLate}
use Rattle.protocol.specs.declared.Drive.{Drive}
use Rattle.protocol.proofs.Chain.Starting.{meets_by}
use Rattle.protocol.proofs.Chain.PairConcludes.{profile_decided, no_version_late, both_open_late, no_profile_late}
use Rattle.protocol.proofs.Delivery.PairDelivers.{both_carry_late, dipsticks_late}
use Rattle.premises.specs.OneCopyWrong.{damaged}
use Rattle.premises.proofs.UndamagedCalls.{as_sent_lem}
use Rattle.premises.proofs.OneCopyWrong.{damaged_within}
use Rattle.premises.proofs.LateCalls.{late_pair_exists}
use Rattle.premises.proofs.PairForEachDelay.{late_pair_for_each_delay}
use Rattle.claims.specs.LatePair.{SlotsExact, SlotsLate, Shares, JoinsLate, OneOfThreeLate, LatePremisesMet}

module _ (d e : ℕ) (later : Later) (bo ba : Book) (go ga : ℕ → Drive) (ho ha : ℕ → ℕ) (p : JoinedLate d e later bo ba go ga ho ha) where
  pub joins_late : JoinsLate d e later bo ba go ga ho ha
  joins_late =
      record {
        opens = both_open_late d e later go ga ho ha bo ba p;
        carries = both_carry_late d e later go ga ho ha bo ba p;
        dipsticks = λ s f. dipsticks_late (both_carry_late d e later go ga ho ha bo ba p s f);
        no_version = no_version_late d e later go ga ho ha bo ba p;
        no_profile = no_profile_late d e later go ga ho ha bo ba p;
      }

  by_profile : Shares d e later bo ba go ga ho ha → ProfileIn bo ba ⊎ (ProfileIn bo ba → ⊥) → OneOfThreeLate d e later bo ba go ga ho ha
  by_profile s (inl f) =
      inl
      (record {
        shares = s;
        has = f;
        opens = joins_late.opens s f;
        carries = joins_late.carries s f;
        dipsticks = joins_late.dipsticks s f;
      })
  by_profile s (inr f) = inr (inr (record { shares = s; lacks = f; refuses = joins_late.no_profile s f }))

  by_version : (none : Bool) → eqb (shared_version bo ba) 0 ≡ none → OneOfThreeLate d e later bo ba go ga ho ha
  by_version true q =
      let z = eqb-true (shared_version bo ba) 0 q in inr (inl (record { shares_none = z; refuses = joins_late.no_version z }))
  by_version false q = by_profile (eqb-false (shared_version bo ba) 0 q) (profile_decided bo ba)

  pub one_of_three_late : OneOfThreeLate d e later bo ba go ga ho ha
  one_of_three_late = by_version (eqb (shared_version bo ba) 0) refl

slots_exact : (d e : ℕ) (later : Later) (bo ba : Book) → SlotsExact d e later bo ba
unfolding parameter_lead
slots_exact d e OriginatorLater bo ba =
    record {
      lacks_in_o = omega arith;
      lacks_in_a = omega arith;
      concludes_in_o = omega arith;
      concludes_in_a = omega arith;
      lacks_reported = omega arith;
      concludes_reported = omega arith;
    }
slots_exact d e AnswererLater bo ba =
    record {
      lacks_in_o = omega arith;
      lacks_in_a = omega arith;
      concludes_in_o = omega arith;
      concludes_in_a = omega arith;
      lacks_reported = omega arith;
      concludes_reported = omega arith;
    }

pub slots_late : (d e : ℕ) (later : Later) (bo ba : Book) → SlotsLate d e later bo ba
unfolding parameter_lead
slots_late d e later bo ba =
    record {
      exact = slots_exact d e later bo ba;
      lacks_by_o = omega (arith, meets_by d e later);
      lacks_by_a = omega (arith, meets_by d e later);
      concludes_by_o = omega (arith, meets_by d e later);
      concludes_by_a = omega (arith, meets_by d e later);
      limit = omega arith;
    }

pub late_premises_met : LatePremisesMet
late_premises_met =
    record {
      each_delay = late_pair_for_each_delay byte_sent as_sent_lem;
      each_damaged = late_pair_for_each_delay damaged damaged_within;
      offered = late_pair_exists byte_sent as_sent_lem;
      damaged_pair = late_pair_exists damaged damaged_within;
    }
