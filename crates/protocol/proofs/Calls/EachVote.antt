-- No copy of a dropped group counts into a later vote: each value is voted from the six bytes received last, which were a whole group.
-- Assumes nothing.
use mathlib.Core.Path.{◌≡◌, refl, ap, ◌∙◌}
use mathlib.Core.Bool.{true}
use mathlib.Core.List.{List}
use mathlib.Core.Logic.{◌⊎◌, inl, inr, ⊎_elim}
use Prim.Native.Nat.{ℕ, zero, suc}
use native.Mathlib.Nat.{add-zero}
use native.Mathlib.Omega.{arith}
use lib.ListN.{set}
use borrow.Author.Tests.{eqb-true}
use Rattle.book.specs.declared.Book.{Book}
use Rattle.book.specs.Kept.{book_ok}
use Rattle.channel.specs.declared.kind.Kind.{Kind}
use Rattle.channel.specs.declared.kind.Kind.TheVariants.{Dh}
use Rattle.channel.specs.Kinds.{nibble_in, kind_of}
use Rattle.protocol.specs.Collecting.{value_of, in_run, in_group, hear_at, hear}
use Rattle.protocol.specs.Exchange.{first_exchange}
use Rattle.protocol.specs.Slot.{exchange_of, started, slot_of}
use Rattle.protocol.specs.Call.{end_at}
use Rattle.protocol.specs.Votes.{GroupFrom, vote_from, awaited_by, Votes}
use Rattle.protocol.specs.declared.Awaited.{Awaited}
use Rattle.protocol.specs.declared.Awaited.TheVariants.{Run, Group, Nothing}
use Rattle.protocol.specs.declared.Sending.{Sending}
use Rattle.protocol.specs.declared.Hearing.{Hearing}
use Rattle.protocol.specs.declared.Phase.{Phase}
use Rattle.protocol.specs.declared.Phase.TheVariants.{Exchanging, Open, Refused}
use Rattle.protocol.specs.declared.Endpoint.{Endpoint}
use Rattle.protocol.specs.declared.Drive.{Drive}
use Rattle.protocol.proofs.Delivery.Carried.{kind_carries}
use Rattle.protocol.proofs.Calls.SlotPasses.{exchange_passes}
use Rattle.protocol.proofs.Calls.ConcludedStays.{open_slot_lem, refused_slot}
use Rattle.protocol.proofs.Calls.ExchangeHears.{exchange_hears, exchange_values}
use Rattle.protocol.proofs.Calls.GroupInHand.{InHand, Holds, hear_holds}
use Rattle.protocol.proofs.Kept.GroupMoves.{any_way}
use Rattle.protocol.proofs.Kept.StateKept.{call_kept}

-- what the bytes in hand and the sixth make: a whole group, and its vote
module _ (heard : ℕ → ℕ) (u : ℕ) (nibbles : List ℕ) (i : InHand heard u 5 nibbles)
    (x : ℕ) (k : kind_of (heard u) ≡ Dh x) (c : x ≡ nibble_in (heard u)) where
  whole_group : GroupFrom heard i.first
  whole_group =
      let turn = rw (add-zero i.first) at i.in_turn in
      record {
        low1 = turn.0.0.0.0.1;
        high1 = turn.0.0.0.1;
        low2 = turn.0.0.1;
        high2 = turn.0.1;
        low3 = turn.1;
        high3 = rw i.last (k ∙ ap Dh c);
      }

  value_voted : value_of (set nibbles 5 x) ≡ vote_from heard i.first
  unfolding value_of
  value_voted = rw (i.nibbles_are, c, ← i.last, add-zero)

-- the byte of kind k is the sixth of a group
record Sixth (a : Awaited) (k : Kind) : Type 0 where
  pub item : ℕ
  pub nibble : ℕ
  pub awaited : a ≡ Group item 5
  pub kind : k ≡ Dh nibble

-- by no other byte does a value change
module _ (b : Book) (h : Hearing) where
  abbrev Changes : Kind → Awaited → Hearing → Type 0
  Changes k a after = (after.values ≡ h.values) ⊎ Sixth a k

  group_changes : (item count : ℕ) (k : Kind) → Changes k (Group item count) (in_group h item count k)
  group_changes item count k =
      any_way (Changes k (Group item count)) h item count k
      (record {
        low_grows = λ x e t. inl refl;
        begins = λ x e. inl refl;
        high_grows = λ x e t. inl refl;
        completes = λ x e t. inr (record { item = item; nibble = x; awaited = ap (Group item) (eqb-true count 5 t); kind = e });
        drops = inl refl;
      })

  at_changes : (k : Kind) (a : Awaited) → Changes k a (hear_at b h k a)
  unfolding hear_at in_run
  at_changes k (Run item count) = inl refl
  at_changes k (Group item count) = group_changes item count k
  at_changes k Nothing = inl refl

-- the sixth byte sets the item's value
sixth_sets : (b : Book) (h : Hearing) (k : Kind) (item x : ℕ) → h.awaited ≡ Group item 5 → k ≡ Dh x
    → (hear b h k).values ≡ set h.values item (value_of (set h.nibbles 5 x))
unfolding hear_at in_group
sixth_sets b h k item x a e = rw (a, e)

module _ (b : Book) (ok : book_ok b ≡ true) (heard : ℕ → ℕ) (given : ℕ → Drive) where
  next_holds : (t : ℕ) (p : Phase) → (end_at (started b) heard given t).phase ≡ p
      → Holds heard t (awaited_by p) (end_at (started b) heard given t).nibbles
      → (let e = (slot_of (end_at (started b) heard given t) (heard t) (given t)).state in Holds heard (suc t) (awaited_by e.phase) e.nibbles)
  next_holds t (Exchanging slot version a s) q i =
      let e = end_at (started b) heard given t in
      rw (exchange_passes e (heard t) (given t) (call_kept b ok heard given t) q)
      (exchange_hears (λ a n v. Holds heard (suc t) a n) e.book slot (exchange_of e version a s) (heard t) (given t)
      (hear_holds heard t e.book (exchange_of e version a s).hearing i) tt)
  next_holds t (Open slot version n line) q i =
      rw (open_slot_lem (end_at (started b) heard given t) (heard t) (given t) q).same tt
  next_holds t (Refused number slot) q i = rw (refused_slot (end_at (started b) heard given t) (heard t) (given t) q, q) tt

  holds : (t : ℕ) → Holds heard t (awaited_by (end_at (started b) heard given t).phase) (end_at (started b) heard given t).nibbles
  unfolding end_at started first_exchange
  holds zero = tt
  holds (suc t) = next_holds t (end_at (started b) heard given t).phase refl (holds t)

  -- a slot of the exchange changes the values as the received byte does
  heard_values : (u slot version : ℕ) (a : Awaited) (s : Sending) → (end_at (started b) heard given u).phase ≡ Exchanging slot version a s
      → (let e = end_at (started b) heard given u in
      (end_at (started b) heard given (suc u)).values ≡ (hear e.book (exchange_of e version a s).hearing (kind_of (heard u))).values)
  unfolding end_at
  heard_values u slot version a s q =
      let e = end_at (started b) heard given u in
      ap (λ (x : Endpoint). x.values) (exchange_passes e (heard u) (given u) (call_kept b ok heard given u) q)
      ∙ exchange_values e.book slot (exchange_of e version a s) (heard u) (given u)

  at_votes : (u item x : ℕ) (p : Phase) → (end_at (started b) heard given u).phase ≡ p → awaited_by p ≡ Group item 5 → kind_of (heard u) ≡ Dh x
      → Votes (started b) heard given u item
  at_votes u item x (Exchanging slot version a s) q w k =
      let e = end_at (started b) heard given u in
      let sixth = ap awaited_by q ∙ w in
      let i = rw sixth at (holds u) in
      let c = rw k at (kind_carries (heard u)) in
      record {
        awaited = sixth;
        first = i.first;
        last = i.last;
        group = whole_group heard u e.nibbles i x k c;
        value =
            heard_values u slot version a s q
            ∙ sixth_sets e.book (exchange_of e version a s).hearing (kind_of (heard u)) item x w k
            ∙ ap (set e.values item) (value_voted heard u e.nibbles i x k c);
      }
  at_votes u item x (Open slot version n line) q w k = let z : ◌≡◌ {A = ℕ} 0 1 = cc in absurd (omega arith)
  at_votes u item x (Refused number slot) q w k = let z : ◌≡◌ {A = ℕ} 0 1 = cc in absurd (omega arith)

  abbrev Stays : ℕ → Type 0
  Stays u = (end_at (started b) heard given (suc u)).values ≡ (end_at (started b) heard given u).values

  at_value : (u : ℕ) (p : Phase) → (end_at (started b) heard given u).phase ≡ p → Stays u ⊎ ((item : ℕ) × Votes (started b) heard given u item)
  unfolding end_at
  at_value u (Exchanging slot version a s) q =
      let e = end_at (started b) heard given u in
      ⊎_elim (λ same. inl (heard_values u slot version a s q ∙ same))
      (λ sixth. inr (sixth.item, at_votes u sixth.item sixth.nibble (Exchanging slot version a s) q sixth.awaited sixth.kind))
      (at_changes e.book (exchange_of e version a s).hearing (kind_of (heard u)) a)
  at_value u (Open slot version n line) q =
      inl (ap (λ (x : Endpoint). x.values) (open_slot_lem (end_at (started b) heard given u) (heard u) (given u) q).same)
  at_value u (Refused number slot) q =
      inl (ap (λ (x : Endpoint). x.values) (refused_slot (end_at (started b) heard given u) (heard u) (given u) q))

-- five bytes of a group are in hand and a DH comes: the item is voted
pub votes : (b : Book) → book_ok b ≡ true → (heard : ℕ → ℕ) (given : ℕ → Drive) (u item x : ℕ)
    → awaited_by (end_at (started b) heard given u).phase ≡ Group item 5 → kind_of (heard u) ≡ Dh x → Votes (started b) heard given u item
votes b ok heard given u item x w k = at_votes b ok heard given u item x (end_at (started b) heard given u).phase refl w k

-- in each slot the values stay as they are, or one is voted so
pub no_other_value : (b : Book) → book_ok b ≡ true → (heard : ℕ → ℕ) (given : ℕ → Drive) (u : ℕ)
    → ((end_at (started b) heard given (suc u)).values ≡ (end_at (started b) heard given u).values)
    ⊎ ((item : ℕ) × Votes (started b) heard given u item)
no_other_value b ok heard given u = at_value b ok heard given u (end_at (started b) heard given u).phase refl
