-- Each end of a pair of which one starts e slots after the other is the end of a call that hears what arrives from its start on, and what
-- arrives is what the channel makes of what the other sent d slots before: so such a pair exists, for every channel whose damage is
-- allowed. Assumes nothing.
use mathlib.Core.Path.{◌≡◌, refl, sym, ap, ◌∙◌, subst}
use mathlib.Core.List.{[], ◌∷◌, ◌++◌}
use Prim.Native.Nat.{ℕ, zero, suc, ◌+◌, ◌-◌, ◌≤◌, ◌<◌}
use native.Mathlib.Nat.{add-zero, add-suc, le_refl}
use native.Mathlib.Decide.{dec_lt}
use native.Mathlib.Omega.{arith}
use lib.ListN.{drop}
use borrow.Author.Tests.{lt-ltb, le-ltb}
use Rattle.book.specs.declared.Book.{Book}
use Rattle.protocol.specs.Sent.{Sent}
use Rattle.protocol.specs.Schedule.{enough}
use Rattle.protocol.specs.Slot.{started, slot_step, slot_of}
use Rattle.protocol.specs.Call.{end_at, sent_at, OffersFit}
use Rattle.protocol.specs.Damage.{Arrives}
use Rattle.protocol.specs.Pair.{MayJoin}
use Rattle.protocol.specs.Joined.{Joined, joined}
use Rattle.protocol.specs.Late.{Later, starts_o, starts_a, since, sent_from}
use Rattle.protocol.specs.declared.Endpoint.{Endpoint}
use Rattle.protocol.specs.declared.Drive.{Drive}
use Rattle.premises.specs.LateRun.{end_after, sent_in, late_slot, late_at, arrives_o, arrives_a, RunsLate}
use Rattle.premises.proofs.DelayLine.{arrives_late}
use Rattle.premises.proofs.WithinDamage.{Within, line_arrives}
use Rattle.premises.proofs.OffersAllowed.{offers_fit_allowed}

-- An end that is not moved before slot s, and from then on goes by slots of a call.
module _ (s : ℕ) (first : Endpoint) (heard : ℕ → ℕ) (given : ℕ → Drive) (end : ℕ → Endpoint) (begins : end 0 ≡ first)
    (moves : (t : ℕ) → end (suc t) ≡ end_after s t (end t) (heard t) (given t)) where
  waits : (t : ℕ) → t ≤ s → end t ≡ first
  waits zero l = begins
  waits (suc t) l = moves t ∙ rw (lt-ltb t s l) (waits t (omega arith))

  -- it is the end of the call that starts in slot s
  own_end : (t : ℕ) → end_at first (since s heard) (since s given) t ≡ end (s + t)
  unfolding end_at
  own_end zero = rw (add-zero s) (sym (waits s (le_refl s)))
  own_end (suc t) =
      ap (λ x. (slot_of x (heard (s + t)) (given (s + t))).state) (own_end t)
      ∙ rw (add-suc s t) (sym (moves (s + t) ∙ rw (le-ltb (s + t) s (omega arith)) refl))

  -- and sends what that call sends, 7F before
  own_sent : (t : ℕ) → sent_in s t (end t) (heard t) (given t) ≡ sent_from s first heard given t
  own_sent t = go (dec_lt t s)
    where
      go : Dec (t < s) → sent_in s t (end t) (heard t) (given t) ≡ sent_from s first heard given t
      go (yes l) = rw (lt-ltb t s l) refl
      go (no l) =
          let slot : s + (t - s) ≡ t = omega arith in
          rw (le-ltb t s (omega arith))
          (subst (λ u. (slot_step (end u) (heard u) (given u)).sent ≡ sent_at first (since s heard) (since s given) (t - s)) slot
          (ap (λ x. (slot_step x (heard (s + (t - s))) (given (s + (t - s)))).sent) (sym (own_end (t - s)))))

module _ (made : Sent → ℕ) (w : Within made) (d e : ℕ) (later : Later) (bo ba : Book) (go ga : ℕ → Drive) (delay : 1 ≤ d) where
  abbrev o : ℕ
  o = starts_o later e

  abbrev a : ℕ
  a = starts_a later e

  run : ℕ → Joined
  run = late_at made o a go ga (joined (started bo) (started ba) d)

  abbrev ho : ℕ → ℕ
  ho = arrives_o made d e later bo ba go ga

  abbrev ha : ℕ → ℕ
  ha = arrives_a made d e later bo ba go ga

  -- what each line takes is what the channel makes of what the end's call sends
  next_o : (t : ℕ) → (run (suc t)).to_o ≡ drop 1 (run t).to_o ++ (made (sent_from a (started ba) ha ga t) ∷ [])
  unfolding run late_at late_slot joined
  next_o t =
      ap (λ sent. drop 1 (run t).to_o ++ (made sent ∷ [])) (own_sent a (started ba) ha ga (λ t. (run t).a) refl (λ t. refl) t)

  next_a : (t : ℕ) → (run (suc t)).to_a ≡ drop 1 (run t).to_a ++ (made (sent_from o (started bo) ho go t) ∷ [])
  unfolding run late_at late_slot joined
  next_a t =
      ap (λ sent. drop 1 (run t).to_a ++ (made sent ∷ [])) (own_sent o (started bo) ho go (λ t. (run t).o) refl (λ t. refl) t)

  to_o_lem : Arrives d (sent_from a (started ba) ha ga) ho
  unfolding run late_at joined
  to_o_lem = line_arrives made w d delay (sent_from a (started ba) ha ga) (λ t. (run t).to_o) refl next_o

  to_a_lem : Arrives d (sent_from o (started bo) ho go) ha
  unfolding run late_at joined
  to_a_lem = line_arrives made w d delay (sent_from o (started bo) ho go) (λ t. (run t).to_a) refl next_a

  made_o_lem : (t : ℕ) → ho (t + d) ≡ made (sent_from a (started ba) ha ga t)
  unfolding run late_at joined
  made_o_lem = arrives_late d delay (λ t. (run t).to_o) (λ t. made (sent_from a (started ba) ha ga t)) refl next_o

  made_a_lem : (t : ℕ) → ha (t + d) ≡ made (sent_from o (started bo) ho go t)
  unfolding run late_at joined
  made_a_lem = arrives_late d delay (λ t. (run t).to_a) (λ t. made (sent_from o (started bo) ho go t)) refl next_a

-- what is given from a slot on fits if all that is given fits
fits_since : (b : Book) (s : ℕ) (given : ℕ → Drive) → OffersFit b given → OffersFit b (since s given)
fits_since b s given f t = f (s + t)

-- offered units that are in range, any two books that may be joined and whose limits are enough make such a pair
pub late_pair_exists : (made : Sent → ℕ) → Within made → (d e : ℕ) (later : Later) (bo ba : Book) (go ga : ℕ → Drive)
    → MayJoin d bo ba → e + enough d bo ba ≤ bo.limit → e + enough d bo ba ≤ ba.limit → OffersFit bo go → OffersFit ba ga
    → RunsLate made d e later bo ba go ga
late_pair_exists made w d e later bo ba go ga books lo la fo fa =
    record {
      pair =
          record {
            books = books;
            limit_o = lo;
            limit_a = la;
            allowed_o = offers_fit_allowed bo books.book_o _ _ (fits_since bo (starts_o later e) go fo);
            allowed_a = offers_fit_allowed ba books.book_a _ _ (fits_since ba (starts_a later e) ga fa);
            to_o = to_o_lem made w d e later bo ba go ga books.delay;
            to_a = to_a_lem made w d e later bo ba go ga books.delay;
          };
      made_o = made_o_lem made w d e later bo ba go ga books.delay;
      made_a = made_a_lem made w d e later bo ba go ga books.delay;
    }
