-- Answers that say the same are the same: nothing is lost in numbers. Assumes nothing.
use Rattle.std.specs.Prelude.{Option, Some, None, Ok, Err}
use mathlib.Core.Path.{◌≡◌, refl, sym, ap, ◌∙◌}
use mathlib.Core.Bool.{Bool, true, false, cond, ◌||◌}
use mathlib.Core.List.{List}
use Prim.Native.Nat.{ℕ}
use lib.Dec.{eqb}
use lib.ListN.{length, get_or, drop}
use Rattle.channel.specs.declared.byte.ChannelByte.{ChannelByte}
use Rattle.channel.specs.Bytes.{byte, bit_of}
use Rattle.protocol.specs.Answers.{says_outcome, says_reply}
use Rattle.protocol.specs.Slot.{Reply, passed_with}
use Rattle.protocol.specs.declared.Outcome.{Outcome}
use Rattle.protocol.specs.declared.Outcome.TheVariants as outcome
use Rattle.protocol.specs.declared.SlotRefusal.TheVariants.{UnitOutOfRange, OutsideRanges}

-- the answers back from what they say

is : List ℕ → ℕ → Bool
is xs place = eqb (get_or xs place 0) 1

is_bit : (b : Bool) → eqb (bit_of b) 1 ≡ b
is_bit true = refl
is_bit false = refl

outcome_in : List ℕ → Outcome
outcome_in xs =
    cond (eqb (length xs) 0) outcome.Exchanging
    (cond (eqb (length xs) 2) (outcome.Refused (get_or xs 0 0) (get_or xs 1 0))
    (outcome.Open (get_or xs 1 0)
    (record { p0 = get_or xs 2 0; p1 = get_or xs 3 0; p2 = get_or xs 4 0; p3 = get_or xs 5 0; p4 = get_or xs 6 0; form = get_or xs 7 0; w = get_or xs 8 0 })
    (get_or xs 9 0)
    (record { leads = record { s0 = is xs 10; s1 = is xs 11; s2 = is xs 12; s3 = is xs 13 }; bk = is xs 14 })))

outcome_told : (o : Outcome) → outcome_in (says_outcome o) ≡ o
unfolding outcome_in is
outcome_told outcome.Exchanging = refl
outcome_told (outcome.Open version p slot s) =
    rw (is_bit s.leads.s0, is_bit s.leads.s1, is_bit s.leads.s2, is_bit s.leads.s3, is_bit s.bk)
outcome_told (outcome.Refused number slot) = refl

pub outcome_says_all : (o u : Outcome) → says_outcome o ≡ says_outcome u → o ≡ u
outcome_says_all o u e = sym (outcome_told o) ∙ ap outcome_in e ∙ outcome_told u

-- a passed slot says three numbers but for the unit, and where an end stands is none, two or fifteen
has_unit : ℕ → Bool
has_unit n = eqb n 4 || eqb n 6 || eqb n 19

reply_in : List ℕ → Reply
reply_in xs =
    cond (eqb (length xs) 1) (Err (cond (eqb (get_or xs 0 0) 12) UnitOutOfRange OutsideRanges))
    (cond (has_unit (length xs)) (passed_with (byte (get_or xs 1 0)) (Some (get_or xs 2 0)) (is xs 3) (outcome_in (drop 4 xs)))
    (passed_with (byte (get_or xs 1 0)) None (is xs 2) (outcome_in (drop 3 xs))))

passed_told : (sent : ChannelByte) (d : Option ℕ) (taken : Bool) (o : Outcome)
    → reply_in (says_reply (passed_with sent d taken o)) ≡ passed_with sent d taken o
unfolding reply_in has_unit is
passed_told sent None taken outcome.Exchanging = rw (is_bit taken, outcome_told outcome.Exchanging)
passed_told sent None taken (outcome.Open version p slot s) = rw (is_bit taken, outcome_told (outcome.Open version p slot s))
passed_told sent None taken (outcome.Refused number slot) = rw (is_bit taken, outcome_told (outcome.Refused number slot))
passed_told sent (Some u) taken outcome.Exchanging = rw (is_bit taken, outcome_told outcome.Exchanging)
passed_told sent (Some u) taken (outcome.Open version p slot s) = rw (is_bit taken, outcome_told (outcome.Open version p slot s))
passed_told sent (Some u) taken (outcome.Refused number slot) = rw (is_bit taken, outcome_told (outcome.Refused number slot))

reply_told : (r : Reply) → reply_in (says_reply r) ≡ r
unfolding reply_in
reply_told (Err UnitOutOfRange) = refl
reply_told (Err OutsideRanges) = refl
reply_told (Ok p) = passed_told p.sent p.delivered p.taken p.outcome

pub reply_says_all : (r s : Reply) → says_reply r ≡ says_reply s → r ≡ s
reply_says_all r s e = sym (reply_told r) ∙ ap reply_in e ∙ reply_told s
