-- Two ends that start together are two of which one starts 0 slots after the other, and what is concluded of the one pair is concluded of the
-- other. Assumes nothing.
use mathlib.Core.Path.{◌≡◌, sym, ap₂, ◌∙◌, subst, subst₂}
use Prim.Native.Nat.{ℕ}
use native.Mathlib.Nat.{add-zero, sub-zero}
use native.Mathlib.Omega.{arith}
use Rattle.book.specs.declared.Entry.{Entry}
use Rattle.book.specs.declared.Book.{Book}
use Rattle.channel.specs.Bytes.{sgidle}
use Rattle.protocol.specs.Sent.{Alone}
use Rattle.protocol.specs.Exchange.{entry_of}
use Rattle.protocol.specs.Schedule.{meets, lacks_o, lacks_a, concludes_o, concludes_a}
use Rattle.protocol.specs.Slot.{started}
use Rattle.protocol.specs.Call.{sent_at, stands_at, Allowed}
use Rattle.protocol.specs.Damage.{Arrives}
use Rattle.protocol.specs.Pair.{JoinedPair, BothOpen, BothRefuse, shared_version}
use Rattle.protocol.specs.Late.{AnswererLater, since, sent_from, stands_from, JoinedLate, meets_late, BothOpenLate, BothRefuseLate}
use Rattle.protocol.specs.declared.Endpoint.{Endpoint}
use Rattle.protocol.specs.declared.Drive.{Drive}
use Rattle.protocol.specs.declared.Outcome.{Outcome}
use Rattle.protocol.specs.declared.Outcome.TheVariants.{Exchanging}
use Rattle.protocol.proofs.Chain.OwnSlots.{since_none, starting_none}

-- an end that starts in slot 0
module _ (end : Endpoint) (heard : ℕ → ℕ) (given : ℕ → Drive) where
  pub sent_at_once : sent_from 0 end heard given ≡ sent_at end heard given
  sent_at_once =
      starting_none (Alone sgidle) (sent_at end (since 0 heard) (since 0 given)) ∙ ap₂ (sent_at end) (since_none heard) (since_none given)

  pub stands_at_once : stands_from 0 end heard given ≡ stands_at end heard given
  stands_at_once =
      starting_none Exchanging (stands_at end (since 0 heard) (since 0 given)) ∙ ap₂ (stands_at end) (since_none heard) (since_none given)

  allowed_late : Allowed end heard given → Allowed end (since 0 heard) (since 0 given)
  allowed_late = subst₂ (Allowed end) (sym (since_none heard)) (sym (since_none given))

  allowed_at_once : Allowed end (since 0 heard) (since 0 given) → Allowed end heard given
  allowed_at_once = subst₂ (Allowed end) (since_none heard) (since_none given)

module _ (d : ℕ) (bo ba : Book) (go ga : ℕ → Drive) (ho ha : ℕ → ℕ) where
  pub together : JoinedPair d bo ba go ga ho ha → JoinedLate d 0 AnswererLater bo ba go ga ho ha
  together p =
      record {
        books = p.books;
        limit_o = omega (arith, p.books.limit_o);
        limit_a = omega (arith, p.books.limit_a);
        allowed_o = allowed_late (started bo) ho go p.allowed_o;
        allowed_a = allowed_late (started ba) ha ga p.allowed_a;
        to_o = subst (λ sent. Arrives d sent ho) (sym (sent_at_once (started ba) ha ga)) p.to_o;
        to_a = subst (λ sent. Arrives d sent ha) (sym (sent_at_once (started bo) ho go)) p.to_a;
      }

  pub joined_at_once : JoinedLate d 0 AnswererLater bo ba go ga ho ha → JoinedPair d bo ba go ga ho ha
  joined_at_once p =
      record {
        books = p.books;
        allowed_o = allowed_at_once (started bo) ho go p.allowed_o;
        allowed_a = allowed_at_once (started ba) ha ga p.allowed_a;
        to_o = subst (λ sent. Arrives d sent ho) (sent_at_once (started ba) ha ga) p.to_o;
        to_a = subst (λ sent. Arrives d sent ha) (sent_at_once (started bo) ho go) p.to_a;
      }

  -- what holds by the slot in which they meet and by where each stands
  by_their_slots : (C : ℕ → (ℕ → Outcome) → (ℕ → Outcome) → Type 0)
      → C (meets_late AnswererLater d 0) (stands_from 0 (started bo) ho go) (stands_from 0 (started ba) ha ga)
      → C (meets d) (stands_at (started bo) ho go) (stands_at (started ba) ha ga)
  by_their_slots C c =
      subst (λ h. C h (stands_at (started bo) ho go) (stands_at (started ba) ha ga)) (add-zero d)
      (subst₂ (C (meets_late AnswererLater d 0)) (stands_at_once (started bo) ho go) (stands_at_once (started ba) ha ga) c)

  open_own : (slot_o slot_a version : ℕ) (profile : Entry) (stands_o stands_a : ℕ → Outcome)
      → BothOpenLate 0 0 slot_o slot_a version profile stands_o stands_a → BothOpen slot_o slot_a version profile stands_o stands_a
  open_own slot_o slot_a version profile stands_o stands_a c = record { o = rw (sub-zero slot_o) at c.o; a = rw (sub-zero slot_a) at c.a }

  refuse_own : (number slot_o slot_a : ℕ) (stands_o stands_a : ℕ → Outcome)
      → BothRefuseLate number 0 0 slot_o slot_a stands_o stands_a → BothRefuse number slot_o slot_a stands_o stands_a
  refuse_own number slot_o slot_a stands_o stands_a c = record { o = rw (sub-zero slot_o) at c.o; a = rw (sub-zero slot_a) at c.a }

  pub open_at_once : BothOpenLate 0 0 (concludes_o (meets_late AnswererLater d 0) d bo ba) (concludes_a (meets_late AnswererLater d 0) d bo ba)
      (shared_version bo ba) (entry_of bo 0) (stands_from 0 (started bo) ho go) (stands_from 0 (started ba) ha ga)
      → BothOpen (concludes_o (meets d) d bo ba) (concludes_a (meets d) d bo ba) (shared_version bo ba) (entry_of bo 0)
      (stands_at (started bo) ho go) (stands_at (started ba) ha ga)
  open_at_once c =
      by_their_slots (λ h so sa. BothOpen (concludes_o h d bo ba) (concludes_a h d bo ba) (shared_version bo ba) (entry_of bo 0) so sa)
      (open_own _ _ _ _ _ _ c)

  pub lack_at_once : BothRefuseLate 21 0 0 (lacks_o (meets_late AnswererLater d 0) d) (lacks_a (meets_late AnswererLater d 0) d)
      (stands_from 0 (started bo) ho go) (stands_from 0 (started ba) ha ga)
      → BothRefuse 21 (lacks_o (meets d) d) (lacks_a (meets d) d) (stands_at (started bo) ho go) (stands_at (started ba) ha ga)
  lack_at_once c = by_their_slots (λ h so sa. BothRefuse 21 (lacks_o h d) (lacks_a h d) so sa) (refuse_own _ _ _ _ _ c)

  pub differ_at_once : BothRefuseLate 22 0 0 (concludes_o (meets_late AnswererLater d 0) d bo ba) (concludes_a (meets_late AnswererLater d 0) d bo ba)
      (stands_from 0 (started bo) ho go) (stands_from 0 (started ba) ha ga)
      → BothRefuse 22 (concludes_o (meets d) d bo ba) (concludes_a (meets d) d bo ba) (stands_at (started bo) ho go) (stands_at (started ba) ha ga)
  differ_at_once c =
      by_their_slots (λ h so sa. BothRefuse 22 (concludes_o h d bo ba) (concludes_a h d bo ba) so sa) (refuse_own _ _ _ _ _ c)
