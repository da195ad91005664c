-- What is promised of two ends that start together is what is promised where one starts 0 slots after the other, and its premises are met.
-- Assumes nothing.
use mathlib.Core.Logic.{inl, inr}
use Prim.Native.Nat.{ℕ, ◌*◌}
use native.Mathlib.Nat.{add-zero, zero-add}
use Rattle.book.specs.declared.Book.{Book}
use Rattle.protocol.specs.Schedule.{enough}
use Rattle.protocol.specs.Pair.{JoinedPair}
use Rattle.protocol.specs.Late.{AnswererLater}
use Rattle.protocol.specs.Joined.{idle}
use Rattle.protocol.specs.declared.Drive.{Drive}
use Rattle.protocol.proofs.Chain.AtOnce.{together, open_at_once, lack_at_once, differ_at_once}
use Rattle.protocol.proofs.Delivery.PairDelivers.{carry_at_once, dipsticks_at_once}
use Rattle.premises.proofs.PairExists.{pair_exists, pair_with_offers_exists, damaged_pair_exists}
use Rattle.premises.proofs.PairForEachDelay.{pair_for_each_delay}
use Rattle.premises.proofs.GoesOn.{goes_on}
use Rattle.premises.proofs.OneCopyWrong.{one_copy_may_be_wrong, second_copy_wrong, b8_wrong}
use Rattle.claims.specs.JoinedPair.{JoinsAsPromised, OneOfThree, SlotsInNumbers, PremisesMet}
use Rattle.claims.specs.LatePair.{JoinsLate, OneOfThreeLate, SlotsLate}
use Rattle.claims.proofs.LatePair.{joins_late, one_of_three_late, slots_late}

-- Two ends that start together are two of which one starts 0 slots after the other.
module _ (d : ℕ) (bo ba : Book) (go ga : ℕ → Drive) (ho ha : ℕ → ℕ) where
  joins_at_once : JoinsLate d 0 AnswererLater bo ba go ga ho ha → JoinsAsPromised d bo ba go ga ho ha
  joins_at_once j =
      record {
        opens = λ s f. open_at_once d bo ba go ga ho ha (j.opens s f);
        carries = λ s f. carry_at_once d go ga ho ha bo ba (j.carries s f);
        dipsticks = λ s f. dipsticks_at_once d go ga ho ha bo ba (j.dipsticks s f);
        no_version = λ z. lack_at_once d bo ba go ga ho ha (j.no_version z);
        no_profile = λ s f. differ_at_once d bo ba go ga ho ha (j.no_profile s f);
      }

  one_at_once : OneOfThreeLate d 0 AnswererLater bo ba go ga ho ha → OneOfThree d bo ba go ga ho ha
  one_at_once (inl c) =
      inl
      (record {
        shares = c.shares;
        has = c.has;
        opens = open_at_once d bo ba go ga ho ha c.opens;
        carries = carry_at_once d go ga ho ha bo ba c.carries;
        dipsticks = dipsticks_at_once d go ga ho ha bo ba c.dipsticks;
      })
  one_at_once (inr (inl c)) = inr (inl (record { shares_none = c.shares_none; refuses = lack_at_once d bo ba go ga ho ha c.refuses }))
  one_at_once (inr (inr c)) =
      inr (inr (record { shares = c.shares; lacks = c.lacks; refuses = differ_at_once d bo ba go ga ho ha c.refuses }))

  slots_at_once : SlotsLate d 0 AnswererLater bo ba → SlotsInNumbers d bo ba
  slots_at_once s =
      record {
        lacks_o = rw (add-zero d, zero-add) at s.exact.lacks_in_o;
        lacks_a = rw (add-zero d, zero-add) at s.exact.lacks_in_a;
        concludes_o = rw (add-zero d, zero-add) at s.exact.concludes_in_o;
        concludes_a = rw (add-zero d, zero-add) at s.exact.concludes_in_a;
        limit = rw (zero-add (enough d bo ba), zero-add (5 * d)) at s.limit;
      }

  pub at_once : JoinsLate d 0 AnswererLater bo ba go ga ho ha × OneOfThreeLate d 0 AnswererLater bo ba go ga ho ha × SlotsLate d 0 AnswererLater bo ba
      → JoinsAsPromised d bo ba go ga ho ha × OneOfThree d bo ba go ga ho ha × SlotsInNumbers d bo ba
  at_once c = (joins_at_once c.0, one_at_once c.1, slots_at_once c.2)

pub joins_as_promised : (d : ℕ) (bo ba : Book) (go ga : ℕ → Drive) (ho ha : ℕ → ℕ) → JoinedPair d bo ba go ga ho ha
    → JoinsAsPromised d bo ba go ga ho ha
joins_as_promised d bo ba go ga ho ha p =
    joins_at_once d bo ba go ga ho ha (joins_late d 0 AnswererLater bo ba go ga ho ha (together d bo ba go ga ho ha p))

pub one_of_three : (d : ℕ) (bo ba : Book) (go ga : ℕ → Drive) (ho ha : ℕ → ℕ) → JoinedPair d bo ba go ga ho ha
    → OneOfThree d bo ba go ga ho ha
one_of_three d bo ba go ga ho ha p =
    one_at_once d bo ba go ga ho ha (one_of_three_late d 0 AnswererLater bo ba go ga ho ha (together d bo ba go ga ho ha p))

pub slots_in_numbers : (d : ℕ) (bo ba : Book) → SlotsInNumbers d bo ba
slots_in_numbers d bo ba = slots_at_once d bo ba (λ t. idle) (λ t. idle) (λ t. 0) (λ t. 0) (slots_late d 0 AnswererLater bo ba)

pub premises_met : PremisesMet
premises_met =
    record {
      each_delay = pair_for_each_delay;
      unoffered = pair_exists;
      offered = pair_with_offers_exists;
      damaged_pair = damaged_pair_exists;
      allowed = one_copy_may_be_wrong;
      second_copy = second_copy_wrong;
      b8 = b8_wrong;
      goes_on = goes_on;
    }
