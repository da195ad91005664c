-- For every delay there are books that may be joined, and so a joined pair with nothing left to assume. Assumes nothing.
use mathlib.Core.Path.{◌≡◌, refl}
use mathlib.Core.Bool.{true}
use Prim.Native.Nat.{ℕ, zero, suc, ◌+◌, ◌*◌, ◌≤◌, ◌<◌}
use native.Mathlib.Omega.{arith}
use lib.Dec.{lit<}
use lib.ListN.{get_or, replicate}
use borrow.Author.Tests.{le-ltb}
use Rattle.book.specs.declared.Book.{Book}
use Rattle.book.specs.Book.{originating, answering, no_entry, params_of}
use Rattle.book.specs.Refusals.{values_fault, seen_in, entry_fault, each_fault, entries_fault}
use Rattle.book.specs.Kept.{all_none, is_padded, book_ok}
use Rattle.protocol.specs.Lengths.{parameter_lead}
use Rattle.protocol.specs.Sent.{Sent}
use Rattle.protocol.specs.Exchange.{entry_of}
use Rattle.protocol.specs.Slot.{started}
use Rattle.protocol.specs.Call.{OffersFit}
use Rattle.protocol.specs.Pair.{OfBytes, MayJoin, JoinedPair}
use Rattle.protocol.specs.Late.{Later}
use Rattle.premises.specs.Undamaged.{hears_o, hears_a}
use Rattle.premises.specs.PlainPair.{plain_with, plain_book, late_book, plain_drive}
use Rattle.premises.specs.LateRun.{RunsLate}
use Rattle.premises.proofs.WithinDamage.{Within}
use Rattle.premises.proofs.PairExists.{pair_exists}
use Rattle.premises.proofs.LateCalls.{late_pair_exists}

plain_accepted : (limit role : ℕ) → 425 ≤ limit → role < 2 → book_ok (plain_with limit role) ≡ true
unfolding book_ok values_fault entries_fault each_fault entry_fault seen_in is_padded all_none
plain_accepted limit zero h l = rw (le-ltb limit 425 h)
plain_accepted limit (suc zero) h l = rw (le-ltb limit 425 h)
plain_accepted limit (suc (suc role)) h l = absurd (omega arith)

zeros : (n k : ℕ) → get_or (replicate n 0) k 0 < 256
zeros zero k = lit< tt
zeros (suc n) zero = lit< tt
zeros (suc n) (suc k) = zeros n k

none : (n i k : ℕ) → get_or (params_of (get_or (replicate n no_entry) i no_entry)) k 0 < 256
none zero i k = zeros 5 k
none (suc n) zero k = zeros 5 k
none (suc n) (suc i) k = none n i k

plain_bytes : (limit role : ℕ) → OfBytes (plain_with limit role)
plain_bytes limit role zero k = zeros 5 k
plain_bytes limit role (suc i) k = none 7 i k

plain_forms : (limit i : ℕ) → i < 1
    → ((entry_of (plain_with limit answering) i).form ≡ (entry_of (plain_with limit originating) 0).form)
    × ((entry_of (plain_with limit answering) i).w ≡ (entry_of (plain_with limit originating) 0).w)
plain_forms limit zero l = (refl, refl)
plain_forms limit (suc i) l = absurd (omega arith)

plain_join : (d limit : ℕ) → 1 ≤ d → 5 * d + 420 ≤ limit → MayJoin d (plain_with limit originating) (plain_with limit answering)
unfolding parameter_lead
plain_join d limit delay within =
    record {
      delay = delay;
      book_o = plain_accepted limit originating (omega arith) (lit< tt);
      book_a = plain_accepted limit answering (omega arith) (lit< tt);
      bytes_o = plain_bytes limit originating;
      bytes_a = plain_bytes limit answering;
      role_o = refl;
      role_a = refl;
      limit_o = omega arith;
      limit_a = omega arith;
      forms = λ i l e. plain_forms limit i l;
    }

pub pair_for_each_delay : (d : ℕ) → 1 ≤ d
    → JoinedPair d (plain_book d originating) (plain_book d answering) plain_drive plain_drive
    (hears_o (started (plain_book d originating)) (started (plain_book d answering)) d plain_drive plain_drive)
    (hears_a (started (plain_book d originating)) (started (plain_book d answering)) d plain_drive plain_drive)
pair_for_each_delay d delay =
    pair_exists d (plain_book d originating) (plain_book d answering) plain_drive plain_drive
    (plain_join d (5 * d + 420) delay (omega arith)) (λ t. refl) (λ t. refl)

-- and for every e, with either end late
pub late_pair_for_each_delay : (made : Sent → ℕ) → Within made → (d e : ℕ) (later : Later) → 1 ≤ d
    → RunsLate made d e later (late_book d e originating) (late_book d e answering) plain_drive plain_drive
unfolding parameter_lead
late_pair_for_each_delay made w d e later delay =
    late_pair_exists made w d e later (late_book d e originating) (late_book d e answering) plain_drive plain_drive
    (plain_join d (e + 5 * d + 420) delay (omega arith)) (omega arith) (omega arith)
    (nothing_offered (late_book d e originating)) (nothing_offered (late_book d e answering))
  where
    nothing_offered : (b : Book) → OffersFit b plain_drive
    nothing_offered b t u q = let z : ◌≡◌ {A = ℕ} 0 1 = cc in absurd (omega arith)
