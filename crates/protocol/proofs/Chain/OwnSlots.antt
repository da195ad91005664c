-- An end that starts in slot s, by the common slots: what its call has in its own slot t it has in slot s + t. Assumes nothing.
use mathlib.Core.Path.{◌≡◌, ap, ◌∙◌, fun_ext}
use Prim.Native.Nat.{ℕ, suc, ◌+◌, ◌-◌, ◌≤◌, ◌<◌, zero-le}
use native.Mathlib.Nat.{zero-add, sub-zero}
use native.Mathlib.Decide.{dec_lt}
use native.Mathlib.Omega.{arith}
use borrow.Author.Tests.{lt-ltb, le-ltb}
use Rattle.book.specs.declared.Book.{Book}
use Rattle.channel.specs.Kinds.{kind_of}
use Rattle.protocol.specs.Pair.{Concludes}
use Rattle.protocol.specs.Late.{since, starting}
use Rattle.protocol.specs.declared.Drive.{Drive}
use Rattle.protocol.specs.declared.Outcome.{Outcome}
use Rattle.protocol.specs.declared.Outcome.TheVariants.{Exchanging}
use Rattle.protocol.proofs.Chain.Segments.{Said, Runs}
use Rattle.protocol.proofs.Chain.Core.{Core, core}
use Rattle.protocol.proofs.Chain.Timed.{core_at, said_at, core_runs}

module _ {A : Type 0} where
  pub not_yet : (s : ℕ) (until : A) (own : ℕ → A) (t : ℕ) → t < s → starting s until own t ≡ until
  not_yet s until own t l = rw (lt-ltb t s l)

  pub once_started : (s : ℕ) (until : A) (own : ℕ → A) (t : ℕ) → s ≤ t → starting s until own t ≡ own (t - s)
  once_started s until own t l = rw (le-ltb t s l)

  -- in slot s + t
  pub in_own : (s : ℕ) (until : A) (own : ℕ → A) (t : ℕ) → starting s until own (s + t) ≡ own t
  in_own s until own t = let z : s + t - s ≡ t = omega arith in once_started s until own (s + t) (omega arith) ∙ ap own z

  -- for an end that starts in slot 0 the common slots are its own
  pub since_none : (common : ℕ → A) → since 0 common ≡ common
  since_none common = fun_ext (λ t. ap common (zero-add t))

  pub starting_none : (until : A) (own : ℕ → A) → starting 0 until own ≡ own
  starting_none until own = fun_ext (λ t. once_started 0 until own t zero-le ∙ ap own (sub-zero t))

-- the slot after
pub next : (s slot : ℕ) → s ≤ slot → suc slot - s ≡ suc (slot - s)
next s slot l = omega arith

-- the exchange of its call
module _ (s : ℕ) (b : Book) (heard : ℕ → ℕ) (given : ℕ → Drive) where
  abbrev pub core_from : ℕ → Core
  core_from t = core_at b (since s heard) (since s given) (t - s)

  abbrev pub said_from : ℕ → Said
  said_from t = said_at b (since s heard) (since s given) (t - s)

  pub runs_from : Runs (core b) s core_from (λ t. kind_of (heard t)) said_from
  runs_from = record { to = moves; said = says }
    where
      own : Runs (core b) 0 (core_at b (since s heard) (since s given)) (λ t. kind_of (since s heard t)) (said_at b (since s heard) (since s given))
      own = core_runs b (since s heard) (since s given)

      moves : (t : ℕ) → s ≤ t → core_from (suc t) ≡ (core b (core_from t) (kind_of (heard t))).to
      moves t l =
          let slot : s + (t - s) ≡ t = omega arith in
          ap (core_at b (since s heard) (since s given)) (next s t l)
          ∙ own.to (t - s) zero-le
          ∙ ap (λ u. (core b (core_from t) (kind_of (heard u))).to) slot

      says : (t : ℕ) → s ≤ t → said_from t ≡ (core b (core_from t) (kind_of (heard t))).out
      says t l =
          let slot : s + (t - s) ≡ t = omega arith in
          own.said (t - s) zero-le ∙ ap (λ u. (core b (core_from t) (kind_of (heard u))).out) slot

-- what an end concludes in its own slot it concludes in that slot by the common ones
pub concludes_from : (s slot : ℕ) {How : Outcome → Type 0} {stands : ℕ → Outcome} → s ≤ slot → Concludes (slot - s) How stands
    → Concludes slot How (starting s Exchanging stands)
concludes_from s slot {How} {stands} later c = record { before = before; after = after }
  where
    before : (t : ℕ) → t ≤ slot → starting s Exchanging stands t ≡ Exchanging
    before t l = go (dec_lt t s)
      where
        go : Dec (t < s) → starting s Exchanging stands t ≡ Exchanging
        go (yes h) = not_yet s Exchanging stands t h
        go (no h) = once_started s Exchanging stands t (omega arith) ∙ c.before (t - s) (omega arith)

    after : (t : ℕ) → slot < t → How (starting s Exchanging stands t)
    after t l = rw (once_started s Exchanging stands t (omega arith)) (c.after (t - s) (omega arith))
