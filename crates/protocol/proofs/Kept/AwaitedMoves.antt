-- What is awaited after a byte, by what was awaited before it. Assumes nothing.
use mathlib.Core.Path.{◌≡◌, refl}
use mathlib.Core.Bool.{true, false, false≢true}
use Prim.Native.Nat.{ℕ, ◌+◌, ◌<◌, ◌≤◌}
use native.Mathlib.Omega.{arith}
use lib.Dec.{eqb, ltb}
use borrow.Author.Tests.{lt-ltb, ltb-true, eqb-true, ne_eqb, le-ltb}
use Rattle.ground.proofs.Test.{by_test, both_left, both_right}
use Rattle.book.specs.declared.Book.{Book}
use Rattle.channel.specs.declared.kind.Kind.{Kind}
use Rattle.protocol.specs.Lengths.{group_length, run_length}
use Rattle.protocol.specs.Collecting.{of_run, next_after, in_run, in_group, hear_at, hear, awaits_hail, has_identifier, has_all}
use Rattle.protocol.specs.Ranges.{behind}
use Rattle.protocol.specs.declared.Awaited.{Awaited}
use Rattle.protocol.specs.declared.Awaited.TheVariants.{Run, Group, Nothing}
use Rattle.protocol.specs.declared.Hearing.{Hearing}
use Rattle.protocol.proofs.Kept.Cases.{both}
use Rattle.protocol.proofs.Kept.GroupMoves.{any_way}

-- P holds wherever a byte may lead from what is awaited
abbrev Leads : (Awaited → Type 0) → Awaited → Type 0
Leads P (Run item count) = ((n : ℕ) → P (Run item n)) × P (Group item 0)
Leads P (Group item count) = ((n : ℕ) → n ≤ count + 1 → P (Group item n)) × (count ≡ 5 → P (next_after item))
Leads P Nothing = P Nothing

module _ (P : Awaited → Type 0) (b : Book) (h : Hearing) where
  in_run_lem : (item count : ℕ) (k : Kind) → Leads P (Run item count) → P (in_run b h item count k).awaited
  unfolding in_run
  in_run_lem item count k l =
      by_test P (of_run item k)
      (λ t. by_test P (ltb (count + 1) (run_length b item)) (λ u. l.0 (count + 1)) (λ u. l.1))
      (λ t. l.0 0)

  in_group_lem : (item count : ℕ) (k : Kind) → Leads P (Group item count) → P (in_group h item count k).awaited
  in_group_lem item count k l =
      any_way (λ (g : Hearing). P g.awaited) h item count k
      (record {
        low_grows = λ x e t. l.0 _ (omega arith);
        begins = λ x e. l.0 _ (omega arith);
        high_grows = λ x e t. l.0 _ (omega arith);
        completes = λ x e t. l.1 (eqb-true count 5 t);
        drops = l.0 _ (omega arith);
      })

  at : (k : Kind) (a : Awaited) → h.awaited ≡ a → Leads P a → P (hear_at b h k a).awaited
  unfolding hear_at
  at k (Run item count) e l = in_run_lem item count k l
  at k (Group item count) e l = in_group_lem item count k l
  at k Nothing e l = rw e l

  -- what holds wherever a byte may lead holds after it
  after : (k : Kind) → Leads P h.awaited → P (hear b h k).awaited
  after k l = at k h.awaited refl l

-- what a byte may make of what is awaited
pub record Moved (before after : Awaited) : Type 0 where
  -- what has come stays so
  pub identifier_stays : has_identifier before ≡ true → has_identifier after ≡ true
  pub all_stays : has_all before ≡ true → has_all after ≡ true
  pub hail_passed : awaits_hail before ≡ false → awaits_hail after ≡ false
  -- with the run of 16 Sgvi no identifier has come, and of its group no byte
  pub hail_lacks : awaits_hail before ≡ true → has_identifier after ≡ false
  pub hail_comes : awaits_hail before ≡ true → awaits_hail after ≡ false → behind 1 after ≡ true
  -- a group gains a byte in a slot at most
  pub behind_stays : (i : ℕ) → i < group_length → behind i before ≡ true → behind (i + 1) after ≡ true

module _ (b : Book) (h : Hearing) (k : Kind) where
  identifier_stays : has_identifier h.awaited ≡ true → has_identifier (hear b h k).awaited ≡ true
  identifier_stays e = after (λ a. has_identifier a ≡ true) b h k (leads h.awaited e)
    where
      leads : (a : Awaited) → has_identifier a ≡ true → Leads (λ a. has_identifier a ≡ true) a
      leads (Run item count) e = (λ n. e, e)
      leads (Group item count) e =
          (λ n l. e, λ l. by_test (λ a. has_identifier a ≡ true) (ltb item 5) (λ t. lt-ltb 0 (item + 1) (omega arith)) (λ t. refl))
      leads Nothing e = refl

  all_stays : has_all h.awaited ≡ true → has_all (hear b h k).awaited ≡ true
  all_stays e = after (λ a. has_all a ≡ true) b h k (leads h.awaited e)
    where
      leads : (a : Awaited) → has_all a ≡ true → Leads (λ a. has_all a ≡ true) a
      leads (Run item count) e = (λ n. e, e)
      leads (Group item count) e = (
        λ n l. e,
        λ l. by_test (λ a. has_all a ≡ true) (ltb item 5) (λ t. lt-ltb 5 (item + 1) (omega (arith, ltb-true 5 item e))) (λ t. refl),
      )
      leads Nothing e = refl

  hail_passed : awaits_hail h.awaited ≡ false → awaits_hail (hear b h k).awaited ≡ false
  hail_passed e = after (λ a. awaits_hail a ≡ false) b h k (leads h.awaited e)
    where
      leads : (a : Awaited) → awaits_hail a ≡ false → Leads (λ a. awaits_hail a ≡ false) a
      leads (Run item count) e = (λ n. e, refl)
      leads (Group item count) e =
          (λ n l. refl, λ l. by_test (λ a. awaits_hail a ≡ false) (ltb item 5) (λ t. ne_eqb (item + 1) 0 (omega arith)) (λ t. refl))
      leads Nothing e = refl

  hail_lacks : awaits_hail h.awaited ≡ true → has_identifier (hear b h k).awaited ≡ false
  hail_lacks e = after (λ a. has_identifier a ≡ false) b h k (leads h.awaited e)
    where
      leads : (a : Awaited) → awaits_hail a ≡ true → Leads (λ a. has_identifier a ≡ false) a
      leads (Run item count) e =
          let none : ltb 0 item ≡ false = le-ltb 0 item (omega (arith, eqb-true item 0 e)) in (λ n. none, none)
      leads (Group item count) e = absurd (false≢true e)
      leads Nothing e = absurd (false≢true e)

  hail_comes : awaits_hail h.awaited ≡ true → awaits_hail (hear b h k).awaited ≡ false → behind 1 (hear b h k).awaited ≡ true
  hail_comes e = after (λ a. awaits_hail a ≡ false → behind 1 a ≡ true) b h k (leads h.awaited e)
    where
      leads : (a : Awaited) → awaits_hail a ≡ true → Leads (λ a. awaits_hail a ≡ false → behind 1 a ≡ true) a
      leads (Run item count) e = (λ n f. cc, λ f. both e refl)
      leads (Group item count) e = absurd (false≢true e)
      leads Nothing e = absurd (false≢true e)

  behind_stays : (i : ℕ) → i < group_length → behind i h.awaited ≡ true → behind (i + 1) (hear b h k).awaited ≡ true
  behind_stays i l e = after (λ a. behind (i + 1) a ≡ true) b h k (leads h.awaited e)
    where
      leads : (a : Awaited) → behind i a ≡ true → Leads (λ a. behind (i + 1) a ≡ true) a
      leads (Run item count) e = absurd (false≢true e)
      leads (Group item count) e =
          let first = both_left (eqb item 0) (ltb count i) e in
          let less : count < i = ltb-true count i (both_right (eqb item 0) (ltb count i) e) in
          (λ n m. both first (lt-ltb n (i + 1) (omega arith)), λ m. absurd (omega arith))
      leads Nothing e = absurd (false≢true e)

  pub moves : Moved h.awaited (hear b h k).awaited
  moves =
      record {
        identifier_stays = identifier_stays;
        all_stays = all_stays;
        hail_passed = hail_passed;
        hail_lacks = hail_lacks;
        hail_comes = hail_comes;
        behind_stays = behind_stays;
      }
