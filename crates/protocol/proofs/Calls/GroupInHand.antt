-- The nibbles in hand are those of the bytes received last, which were a DL, a DH and so on in turn. Assumes nothing.
use mathlib.Core.Path.{◌≡◌, refl, ap, ◌∙◌}
use mathlib.Core.Bool.{true, false, cond}
use mathlib.Core.List.{List}
use Prim.Native.Nat.{ℕ, zero, suc, ◌+◌}
use native.Mathlib.Nat.{add-zero}
use native.Mathlib.Omega.{arith}
use native.Mathlib.Numerals.{add-one}
use lib.Dec.{eqb, ltb}
use lib.ListN.{set}
use borrow.Author.Tests.{eqb-true}
use Rattle.ground.proofs.Test.{by_test}
use Rattle.book.specs.declared.Book.{Book}
use Rattle.channel.specs.declared.kind.Kind.{Kind}
use Rattle.channel.specs.declared.kind.Kind.TheVariants.{Dl, Dh}
use Rattle.channel.specs.Kinds.{nibble_in, kind_of}
use Rattle.protocol.specs.Lengths.{run_length}
use Rattle.protocol.specs.Collecting.{no_nibbles, of_run, dl_due, dh_due, next_after, in_run, in_group, hear_at, hear}
use Rattle.protocol.specs.declared.Awaited.{Awaited}
use Rattle.protocol.specs.declared.Awaited.TheVariants.{Run, Group, Nothing}
use Rattle.protocol.specs.declared.Hearing.{Hearing}
use Rattle.protocol.proofs.Kept.Cases.{either}
use Rattle.protocol.proofs.Kept.GroupMoves.{any_way}
use Rattle.protocol.proofs.Delivery.Carried.{Carries, kind_carries}

-- the nibbles of n bytes received from slot t on, zeros past them
abbrev pub nibbles_from : (ℕ → ℕ) → ℕ → ℕ → List ℕ
nibbles_from heard t zero = no_nibbles
nibbles_from heard t (suc n) = set (nibbles_from heard t n) n (nibble_in (heard (t + n)))

-- those n bytes are of the kinds that are due in turn
abbrev pub InTurn : (ℕ → ℕ) → ℕ → ℕ → Type 0
InTurn heard t zero = Unit {0}
InTurn heard t (suc n) =
    InTurn heard t n × (kind_of (heard (t + n)) ≡ cond (dl_due n) (Dl (nibble_in (heard (t + n)))) (Dh (nibble_in (heard (t + n)))))

-- a group of which count bytes are in hand before slot t
pub record InHand (heard : ℕ → ℕ) (t count : ℕ) (nibbles : List ℕ) : Type 0 where
  pub first : ℕ
  pub last : first + count ≡ t
  pub nibbles_are : nibbles ≡ nibbles_from heard first count
  pub in_turn : InTurn heard first count

abbrev pub Holds : (ℕ → ℕ) → ℕ → Awaited → List ℕ → Type 0
Holds heard t (Run item count) nibbles = Unit {0}
Holds heard t (Group item count) nibbles = InHand heard t count nibbles
Holds heard t Nothing nibbles = Unit {0}

-- where a DH is due no DL is
dh_no_dl : (count : ℕ) → dh_due count ≡ true → dl_due count ≡ false
dh_no_dl count = either (eqb count 1) (eqb count 3) (λ u. rw (eqb-true count 1 u)) (λ u. rw (eqb-true count 3 u))

module _ (heard : ℕ → ℕ) (t : ℕ) where
  none_in_hand : InHand heard (suc t) 0 no_nibbles
  none_in_hand = record { first = suc t; last = add-zero (suc t); nibbles_are = refl; in_turn = tt }

  -- the byte of slot t is a DL with nibble x
  begun_in_hand : (x : ℕ) → kind_of (heard t) ≡ Dl x → x ≡ nibble_in (heard t) → InHand heard (suc t) 1 (set no_nibbles 0 x)
  begun_in_hand x k e =
      record {
        first = t;
        last = add-one t;
        nibbles_are = rw (add-zero t, e);
        in_turn = rw (add-zero t) (tt, k ∙ ap Dl e);
      }

  -- the byte of slot t is the one due
  grown_in_hand : (count x : ℕ) (nibbles : List ℕ) → kind_of (heard t) ≡ cond (dl_due count) (Dl x) (Dh x) → x ≡ nibble_in (heard t)
      → InHand heard t count nibbles → InHand heard (suc t) (count + 1) (set nibbles count x)
  grown_in_hand count x nibbles k e i =
      rw (add-one count)
      (record {
        first = i.first;
        last = omega arith;
        nibbles_are = rw (i.last, i.nibbles_are, e);
        in_turn = (i.in_turn, rw i.last (rw e at k));
      })

  abbrev After : Hearing → Type 0
  After h = Holds heard (suc t) h.awaited h.nibbles

  module _ (b : Book) (h : Hearing) (item count : ℕ) where
    run_holds : (k : Kind) → After (in_run b h item count k)
    unfolding in_run
    run_holds k =
        by_test (λ a. Holds heard (suc t) a no_nibbles) (of_run item k)
        (λ u. by_test (λ a. Holds heard (suc t) a no_nibbles) (ltb (count + 1) (run_length b item)) (λ v. tt) (λ v. none_in_hand)) (λ u. tt)

    voted_holds : Holds heard (suc t) (next_after item) no_nibbles
    voted_holds = by_test (λ a. Holds heard (suc t) a no_nibbles) (ltb item 5) (λ u. tt) (λ u. tt)

    group_holds : InHand heard t count h.nibbles → (k : Kind) → kind_of (heard t) ≡ k → Carries (heard t) k → After (in_group h item count k)
    group_holds i k e c =
        any_way After h item count k
        (record {
          low_grows = λ x q u. grown_in_hand count x h.nibbles (rw u (e ∙ q)) (rw q at c) i;
          begins = λ x q. begun_in_hand x (e ∙ q) (rw q at c);
          high_grows = λ x q u. grown_in_hand count x h.nibbles (rw (dh_no_dl count u) (e ∙ q)) (rw q at c) i;
          completes = λ x q u. voted_holds;
          drops = none_in_hand;
        })

  at_holds : (b : Book) (h : Hearing) (a : Awaited) → h.awaited ≡ a → Holds heard t a h.nibbles → After (hear_at b h (kind_of (heard t)) a)
  unfolding hear_at
  at_holds b h (Run item count) q i = run_holds b h item count (kind_of (heard t))
  at_holds b h (Group item count) q i = group_holds b h item count i (kind_of (heard t)) refl (kind_carries (heard t))
  at_holds b h Nothing q i = rw q tt

  pub hear_holds : (b : Book) (h : Hearing) → Holds heard t h.awaited h.nibbles
      → (let after = hear b h (kind_of (heard t)) in Holds heard (suc t) after.awaited after.nibbles)
  hear_holds b h i = at_holds b h h.awaited refl i
