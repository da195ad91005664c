-- A received byte keeps what is awaited, the nibbles in hand and the values voted in their ranges. Assumes nothing.
use mathlib.Core.Path.{◌≡◌, refl}
use mathlib.Core.Bool.{true, ◌||◌}
use mathlib.Core.List.{List, [], ◌∷◌}
use Prim.Native.Nat.{ℕ, zero, suc, ◌+◌, ◌<◌}
use native.Mathlib.Omega.{arith}
use native.Mathlib.Numerals.{add-one}
use lib.Dec.{eqb, ltb, leb}
use lib.ListN.{set, drop}
use lib.Seq.{drop-set-lt}
use borrow.Author.Tests.{lt-ltb, le-leb, ltb-true, leb-true, ltb-false, eqb-true}
use Rattle.ground.specs.Digits.{all_below}
use Rattle.ground.proofs.Test.{by_test, both_left, both_right}
use Rattle.book.specs.declared.Book.{Book}
use Rattle.channel.specs.declared.kind.Kind.{Kind}
use Rattle.channel.specs.Kinds.{nibble_in, kind_of}
use Rattle.protocol.specs.Lengths.{identifier_run, parameter_run, group_length, run_length}
use Rattle.protocol.specs.Collecting.{no_nibbles, of_run, dl_due, dh_due, begun, grown, next_after, in_run, in_group, hear_at, hear}
use Rattle.protocol.specs.Ranges.{awaited_in, in_hand, nibbles_in, values_in, all_zero}
use Rattle.protocol.specs.declared.Awaited.{Awaited}
use Rattle.protocol.specs.declared.Awaited.TheVariants.{Run, Group, Nothing}
use Rattle.protocol.specs.declared.Hearing.{Hearing}
use Rattle.protocol.proofs.Kept.Cases.{both, either}
use Rattle.protocol.proofs.Kept.GroupMoves.{any_way}
use Rattle.protocol.proofs.Delivery.Carried.{Carries, kind_carries, nibble_below}

-- numbers below n stay so where a place is set to one more such number, and from the next place on
set_below : (n : ℕ) (xs : List ℕ) (i x : ℕ) → all_below n xs ≡ true → x < n → all_below n (set xs i x) ≡ true
unfolding all_below
set_below n [] i x e h = refl
set_below n (y ∷ ys) zero x e h = both (lt-ltb x n h) (both_right (ltb y n) (all_below n ys) e)
set_below n (y ∷ ys) (suc i) x e h =
    both (both_left (ltb y n) (all_below n ys) e) (set_below n ys i x (both_right (ltb y n) (all_below n ys) e) h)

fewer : (n : ℕ) (xs : List ℕ) (i : ℕ) → all_below n (drop i xs) ≡ true → all_below n (drop (suc i) xs) ≡ true
unfolding all_below
fewer n [] i e = refl
fewer n (y ∷ ys) zero e = both_right (ltb y n) (all_below n ys) e
fewer n (y ∷ ys) (suc i) e = fewer n ys i e

-- zeros past place i, which is set, are zeros past the next
past_set : (xs : List ℕ) (i x : ℕ) → all_zero (drop i xs) ≡ true → all_zero (drop (i + 1) (set xs i x)) ≡ true
past_set xs i x e = rw (add-one i, drop-set-lt (suc i) xs i x (omega arith)) (fewer 1 xs i e)

pub record HearingIn (b : Book) (h : Hearing) : Type 0 where
  pub awaited : awaited_in b h.awaited ≡ true
  pub nibbles : nibbles_in h.awaited h.nibbles ≡ true
  pub values : values_in h.awaited h.values ≡ true

run_positive : (b : Book) (item : ℕ) → ltb 0 (run_length b item) ≡ true
unfolding identifier_run parameter_run
run_positive b item = by_test (λ n. ltb 0 n ≡ true) (eqb item 0) (λ t. refl) (λ t. refl)

none_in_hand : (a : Awaited) → in_hand a ≡ 0 → nibbles_in a no_nibbles ≡ true
unfolding nibbles_in all_below
none_in_hand a e = rw e

-- a byte that a group goes on with comes before the sixth place
module _ (count : ℕ) where
  at : (place : ℕ) → place < 5 → eqb count place ≡ true → count < 5
  at place l e = omega (arith, eqb-true count place e)

  dl_place : dl_due count ≡ true → count < 5
  dl_place =
      either (eqb count 0 || eqb count 2) (eqb count 4)
      (either (eqb count 0) (eqb count 2) (at 0 (omega arith)) (at 2 (omega arith))) (at 4 (omega arith))

  dh_place : dh_due count ≡ true → count < 5
  dh_place = either (eqb count 1) (eqb count 3) (at 1 (omega arith)) (at 3 (omega arith))

module _ (b : Book) (h : Hearing) (item count : ℕ) (item_in : leb item 5 ≡ true) (values-in : all_zero (drop item h.values) ≡ true) where
  abbrev InAs : Awaited → Type 0
  InAs a = HearingIn b (record { awaited = a; nibbles = no_nibbles; values = h.values })

  in_run_as : (n : ℕ) → ltb n (run_length b item) ≡ true → InAs (Run item n)
  unfolding awaited_in values_in
  in_run_as n l = record { awaited = both item_in l; nibbles = none_in_hand (Run item n) refl; values = values-in }

  dropped_kept : InAs (Group item 0)
  unfolding awaited_in values_in
  dropped_kept = record { awaited = both item_in refl; nibbles = none_in_hand (Group item 0) refl; values = values-in }

  run_kept : (k : Kind) → HearingIn b (in_run b h item count k)
  unfolding in_run
  run_kept k =
      by_test InAs (of_run item k)
      (λ t. by_test InAs (ltb (count + 1) (run_length b item)) (λ l. in_run_as (count + 1) l) (λ l. dropped_kept))
      (λ t. in_run_as 0 (run_positive b item))

  begun_kept : (x : ℕ) → x < 16 → HearingIn b (begun h item x)
  unfolding awaited_in nibbles_in values_in all_below
  begun_kept x l =
      record { awaited = both item_in refl; nibbles = both (both (lt-ltb x 16 l) refl) refl; values = values-in }

  grown_kept : (x : ℕ) → count < 5 → x < 16 → nibbles_in (Group item count) h.nibbles ≡ true → HearingIn b (grown h item count x)
  unfolding awaited_in nibbles_in values_in
  grown_kept x c l e =
      let low = all_below 16 h.nibbles in
      let rest = all_zero (drop count h.nibbles) in
      record {
        awaited = both item_in (lt-ltb (count + 1) group_length (omega arith));
        nibbles =
            both (set_below 16 h.nibbles count x (both_left low rest e) l)
            (past_set h.nibbles count x (both_right low rest e));
        values = values-in;
      }

  -- a value is voted, whatever it is
  voted_kept : (v : ℕ) → HearingIn b (record { awaited = next_after item; nibbles = no_nibbles; values = set h.values item v })
  unfolding awaited_in values_in
  voted_kept v =
      by_test (λ a. HearingIn b (record { awaited = a; nibbles = no_nibbles; values = set h.values item v })) (ltb item 5)
      (λ t.
      record {
        awaited = both (le-leb (item + 1) 5 (omega (arith, ltb-true item 5 t))) (run_positive b (item + 1));
        nibbles = none_in_hand (Run (item + 1) 0) refl;
        values = past_set h.values item v values-in;
      })
      (λ t.
      let last : item + 1 ≡ 6 = omega (arith, ltb-false item 5 t, leb-true item 5 item_in) in
      record { awaited = refl; nibbles = none_in_hand Nothing refl; values = rw last at (past_set h.values item v values-in) })

  module _ (byte : ℕ) (nibbles-in : nibbles_in (Group item count) h.nibbles ≡ true) where
    below : (x : ℕ) → x ≡ nibble_in byte → x < 16
    below x e = omega (arith, nibble_below byte)

    group_kept : (k : Kind) → Carries byte k → HearingIn b (in_group h item count k)
    group_kept k c =
        any_way (HearingIn b) h item count k
        (record {
          low_grows = λ x e t. grown_kept x (dl_place count t) (below x (rw e at c)) nibbles-in;
          begins = λ x e. begun_kept x (below x (rw e at c));
          high_grows = λ x e t. grown_kept x (dh_place count t) (below x (rw e at c)) nibbles-in;
          completes = λ x e t. voted_kept _;
          drops = dropped_kept;
        })

at_kept : (b : Book) (h : Hearing) (byte : ℕ) (k : Kind) (a : Awaited) → h.awaited ≡ a → Carries byte k → HearingIn b h
    → HearingIn b (hear_at b h k a)
unfolding hear_at awaited_in values_in
at_kept b h byte k (Run item count) e c i =
    run_kept b h item count (both_left (leb item 5) (ltb count (run_length b item)) (rw e at i.awaited))
    (rw e at i.values) k
at_kept b h byte k (Group item count) e c i =
    group_kept b h item count (both_left (leb item 5) (ltb count group_length) (rw e at i.awaited)) (rw e at i.values) byte
    (rw e at i.nibbles) k c
at_kept b h byte k Nothing e c i = i

pub hear_kept : (b : Book) (h : Hearing) (byte : ℕ) → HearingIn b h → HearingIn b (hear b h (kind_of byte))
hear_kept b h byte i = at_kept b h byte (kind_of byte) h.awaited refl (kind_carries byte) i
