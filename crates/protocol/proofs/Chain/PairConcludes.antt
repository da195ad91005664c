-- The first half of what is promised of the joined pair: both ends open alike, or both refuse alike with the true reason. Assumes nothing.
use Rattle.std.specs.Prelude.{Option, Some, None}
use mathlib.Core.Path.{◌≡◌, refl, sym, ◌∙◌}
use mathlib.Core.Bool.{true, false}
use mathlib.Core.Logic.{◌⊎◌, inl, inr}
use Prim.Native.Nat.{ℕ, ◌-◌, ◌≤◌}
use native.Mathlib.Omega.{arith}
use lib.Dec.{eqb}
use borrow.Author.Tests.{ne_eqb}
use Rattle.book.specs.declared.Book.{Book}
use Rattle.book.specs.Book.{params_of}
use Rattle.protocol.specs.Exchange.{entry_of, match_in}
use Rattle.protocol.specs.Schedule.{meets, lacks_o, lacks_a, concludes_o, concludes_a}
use Rattle.protocol.specs.Slot.{started}
use Rattle.protocol.specs.Call.{stands_at}
use Rattle.protocol.specs.Pair.{JoinedPair, ProfileIn, Concludes, BothOpen, BothRefuse, shared_version}
use Rattle.protocol.specs.Late.{Later, AnswererLater, starts_o, starts_a, starting, stands_from, JoinedLate, meets_late, BothOpenLate, BothRefuseLate}
use Rattle.protocol.specs.declared.Drive.{Drive}
use Rattle.protocol.specs.declared.Outcome.{Outcome}
use Rattle.protocol.specs.declared.Outcome.TheVariants.{Exchanging}
use Rattle.protocol.proofs.Kept.Matching.{names, names_none}
use Rattle.protocol.proofs.Chain.Roles.{as_o, as_a, common, by_roles}
use Rattle.protocol.proofs.Chain.Profile.{found_same, found_none}
use Rattle.protocol.proofs.Chain.OwnSlots.{concludes_from}
use Rattle.protocol.proofs.Chain.Starting.{after_o, after_a}
use Rattle.protocol.proofs.Chain.AtOnce.{together, open_at_once, lack_at_once, differ_at_once}
use Rattle.protocol.proofs.Chain.BothConclude.{refuse_21_o, refuse_21_a, open_o, open_a, refuse_22_o, refuse_22_a}

-- whether the originator's profile is in the answerer's book is decided by the two books
pub profile_decided : (bo ba : Book) → ProfileIn bo ba ⊎ (ProfileIn bo ba → ⊥)
profile_decided bo ba = by (match_in 0 ba.entries (params_of (entry_of bo 0)) ba.n) refl
  where
    by : (m : Option ℕ) → match_in 0 ba.entries (params_of (entry_of bo 0)) ba.n ≡ m → ProfileIn bo ba ⊎ (ProfileIn bo ba → ⊥)
    by (Some i) e =
        let n = names 0 ba.entries (params_of (entry_of bo 0)) ba.n i e in inl (record { entry = i; below = n.0; same = n.1 })
    by None e =
        inr
        (λ f.
        let z : true ≡ false = sym f.same ∙ names_none 0 ba.entries (params_of (entry_of bo 0)) ba.n f.entry e f.below in
        let w : ◌≡◌ {A = ℕ} 0 1 = cc in
        absurd (omega arith))

-- one end starts e slots after the other
module _ (d e : ℕ) (later : Later) (go ga : ℕ → Drive) (ho ha : ℕ → ℕ) where
  -- what is shown of a joined pair of books in their roles holds of every joined pair
  pub pair_by_roles : (C : Book → Book → Type 0) → ((bo ba : Book) → JoinedLate d e later (as_o bo) (as_a ba) go ga ho ha → C (as_o bo) (as_a ba))
      → (bo ba : Book) → JoinedLate d e later bo ba go ga ho ha → C bo ba
  pair_by_roles C f bo ba p = by_roles (λ x y. JoinedLate d e later x y go ga ho ha) C f bo ba p.books.role_o p.books.role_a p

  -- both ends conclude in their slots
  abbrev o : ℕ
  o = starts_o later e

  abbrev a : ℕ
  a = starts_a later e

  abbrev h : ℕ
  h = meets_late later d e

  abbrev Opens : Book → Book → Type 0
  Opens bo ba =
      BothOpenLate o a (concludes_o h d bo ba) (concludes_a h d bo ba) (shared_version bo ba) (entry_of bo 0)
      (stands_from o (started bo) ho go) (stands_from a (started ba) ha ga)

  abbrev Lacks : Book → Book → Type 0
  Lacks bo ba = BothRefuseLate 21 o a (lacks_o h d) (lacks_a h d) (stands_from o (started bo) ho go) (stands_from a (started ba) ha ga)

  abbrev Differs : Book → Book → Type 0
  Differs bo ba =
      BothRefuseLate 22 o a (concludes_o h d bo ba) (concludes_a h d bo ba) (stands_from o (started bo) ho go) (stands_from a (started ba) ha ga)

  -- an end that concludes after they have met has started
  by_common_o : (slot : ℕ) {How : Outcome → Type 0} {stands : ℕ → Outcome} → h ≤ slot → Concludes (slot - o) How stands
      → Concludes slot How (starting o Exchanging stands)
  by_common_o slot l = concludes_from o slot (omega (arith, after_o d e later))

  by_common_a : (slot : ℕ) {How : Outcome → Type 0} {stands : ℕ → Outcome} → h ≤ slot → Concludes (slot - a) How stands
      → Concludes slot How (starting a Exchanging stands)
  by_common_a slot l = concludes_from a slot (omega (arith, after_a d e later))

  lack_by : (bo ba : Book) → JoinedLate d e later (as_o bo) (as_a ba) go ga ho ha → common bo ba ≡ 0 → Lacks (as_o bo) (as_a ba)
  lack_by bo ba p none =
      record {
        o = by_common_o (lacks_o h d) (omega arith) (refuse_21_o bo ba p none);
        a = by_common_a (lacks_a h d) (omega arith) (refuse_21_a bo ba p none);
      }

  module _ (bo ba : Book) (p : JoinedLate d e later (as_o bo) (as_a ba) go ga ho ha) (shared : eqb (common bo ba) 0 ≡ false) where
    met_o : h ≤ concludes_o h d (as_o bo) (as_a ba)
    met_o = omega arith

    met_a : h ≤ concludes_a h d (as_o bo) (as_a ba)
    met_a = omega arith

    open_by : ProfileIn (as_o bo) (as_a ba) → (m : Option ℕ) → match_in (common bo ba) ba.entries (params_of (entry_of bo 0)) ba.n ≡ m
        → Opens (as_o bo) (as_a ba)
    open_by f (Some i) q =
        record {
          o = by_common_o (concludes_o h d (as_o bo) (as_a ba)) met_o (open_o bo ba p shared i q);
          a = by_common_a (concludes_a h d (as_o bo) (as_a ba)) met_a (open_a bo ba p shared i q);
        }
    open_by f None q =
        let z : true ≡ false = sym f.same ∙ found_none d bo ba p.books shared f.entry q f.below in
        let w : ◌≡◌ {A = ℕ} 0 1 = cc in
        absurd (omega arith)

    refuse_by : (ProfileIn (as_o bo) (as_a ba) → ⊥) → (m : Option ℕ) → match_in (common bo ba) ba.entries (params_of (entry_of bo 0)) ba.n ≡ m
        → Differs (as_o bo) (as_a ba)
    refuse_by f (Some i) q =
        let n = found_same d bo ba p.books shared i q in
        absurd (f (record { entry = i; below = n.0; same = n.1 }))
    refuse_by f None q =
        record {
          o = by_common_o (concludes_o h d (as_o bo) (as_a ba)) met_o (refuse_22_o bo ba p shared q);
          a = by_common_a (concludes_a h d (as_o bo) (as_a ba)) met_a (refuse_22_a bo ba p shared q);
        }

  -- if they share no version, both refuse 21
  pub no_version_late : (bo ba : Book) → JoinedLate d e later bo ba go ga ho ha → shared_version bo ba ≡ 0 → Lacks bo ba
  no_version_late = pair_by_roles (λ bo ba. shared_version bo ba ≡ 0 → Lacks bo ba) lack_by

  -- if they share one and the originator's profile is in the answerer's book, both open on the highest shared version and that profile
  pub both_open_late : (bo ba : Book) → JoinedLate d e later bo ba go ga ho ha → (shared_version bo ba ≡ 0 → ⊥) → ProfileIn bo ba → Opens bo ba
  both_open_late =
      pair_by_roles (λ bo ba. (shared_version bo ba ≡ 0 → ⊥) → ProfileIn bo ba → Opens bo ba)
      (λ bo ba p s f. open_by bo ba p (ne_eqb (common bo ba) 0 s) f (match_in (common bo ba) ba.entries (params_of (entry_of bo 0)) ba.n) refl)

  -- if they share one and it is not, both refuse 22
  pub no_profile_late : (bo ba : Book) → JoinedLate d e later bo ba go ga ho ha → (shared_version bo ba ≡ 0 → ⊥) → (ProfileIn bo ba → ⊥)
      → Differs bo ba
  no_profile_late =
      pair_by_roles (λ bo ba. (shared_version bo ba ≡ 0 → ⊥) → (ProfileIn bo ba → ⊥) → Differs bo ba)
      (λ bo ba p s f. refuse_by bo ba p (ne_eqb (common bo ba) 0 s) f (match_in (common bo ba) ba.entries (params_of (entry_of bo 0)) ba.n) refl)

-- both ends start together: e = 0
module _ (d : ℕ) (go ga : ℕ → Drive) (ho ha : ℕ → ℕ) where
  pub no_version_lem : (bo ba : Book) → JoinedPair d bo ba go ga ho ha → shared_version bo ba ≡ 0
      → BothRefuse 21 (lacks_o (meets d) d) (lacks_a (meets d) d) (stands_at (started bo) ho go) (stands_at (started ba) ha ga)
  no_version_lem bo ba p none = lack_at_once d bo ba go ga ho ha (no_version_late d 0 AnswererLater go ga ho ha bo ba (together d bo ba go ga ho ha p) none)

  pub both_open : (bo ba : Book) → JoinedPair d bo ba go ga ho ha → (shared_version bo ba ≡ 0 → ⊥) → ProfileIn bo ba
      → BothOpen (concludes_o (meets d) d bo ba) (concludes_a (meets d) d bo ba) (shared_version bo ba) (entry_of bo 0)
      (stands_at (started bo) ho go) (stands_at (started ba) ha ga)
  both_open bo ba p s f = open_at_once d bo ba go ga ho ha (both_open_late d 0 AnswererLater go ga ho ha bo ba (together d bo ba go ga ho ha p) s f)

  pub no_profile_lem : (bo ba : Book) → JoinedPair d bo ba go ga ho ha → (shared_version bo ba ≡ 0 → ⊥) → (ProfileIn bo ba → ⊥)
      → BothRefuse 22 (concludes_o (meets d) d bo ba) (concludes_a (meets d) d bo ba)
      (stands_at (started bo) ho go) (stands_at (started ba) ha ga)
  no_profile_lem bo ba p s f = differ_at_once d bo ba go ga ho ha (no_profile_late d 0 AnswererLater go ga ho ha bo ba (together d bo ba go ga ho ha p) s f)
