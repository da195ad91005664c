-- Two ends that are started together meet in slot d: they are two that start in slot 0. Assumes nothing.
use mathlib.Core.Path.{◌≡◌, sym, ap, ap₂, ◌∙◌, subst, subst₂, fun_ext}
use mathlib.Core.Bool.{true}
use Prim.Native.Nat.{ℕ, ◌≤◌, zero-le}
use native.Mathlib.Nat.{sub-zero}
use native.Mathlib.Omega.{arith}
use Rattle.book.specs.declared.Book.{Book}
use Rattle.channel.specs.Kinds.{kind_of}
use Rattle.protocol.specs.Schedule.{meets, enough}
use Rattle.protocol.specs.Slot.{started}
use Rattle.protocol.specs.Call.{sent_at}
use Rattle.protocol.specs.Damage.{Arrives}
use Rattle.protocol.specs.Ranges.{well_formed}
use Rattle.protocol.specs.Late.{since}
use Rattle.protocol.specs.declared.Drive.{Drive}
use Rattle.protocol.proofs.Chain.Roles.{as_o, as_a}
use Rattle.protocol.proofs.Chain.Meeting.{Meeting}
use Rattle.protocol.proofs.Chain.Timed.{core_at, said_at, end}
use Rattle.protocol.proofs.Chain.OwnSlots.{since_none, core_from, said_from}
use Rattle.protocol.proofs.Chain.AtOnce.{sent_at_once}
use Rattle.protocol.proofs.Chain.Starting.{met_late}

-- an end that starts in slot 0
module _ (b : Book) (heard : ℕ → ℕ) (given : ℕ → Drive) where
  core_own : core_from 0 b heard given ≡ core_at b heard given
  core_own =
      fun_ext (λ t. ap (core_at b (since 0 heard) (since 0 given)) (sub-zero t))
      ∙ ap₂ (core_at b) (since_none heard) (since_none given)

  said_own : said_from 0 b heard given ≡ said_at b heard given
  said_own =
      fun_ext (λ t. ap (said_at b (since 0 heard) (since 0 given)) (sub-zero t))
      ∙ ap₂ (said_at b) (since_none heard) (since_none given)

  kept_own : ((t : ℕ) → well_formed (end b heard given t) ≡ true) → (t : ℕ) → well_formed (end b (since 0 heard) (since 0 given) t) ≡ true
  kept_own = subst₂ (λ h g. (t : ℕ) → well_formed (end b h g t) ≡ true) (sym (since_none heard)) (sym (since_none given))

module _ (d : ℕ) (bo ba : Book) (go ga : ℕ → Drive) (ho ha : ℕ → ℕ)
    (ahead : 1 ≤ d) (limit-o : enough d (as_o bo) (as_a ba) ≤ bo.limit) (limit-a : enough d (as_o bo) (as_a ba) ≤ ba.limit)
    (kept_o : (t : ℕ) → well_formed (end (as_o bo) ho go t) ≡ true)
    (kept_a : (t : ℕ) → well_formed (end (as_a ba) ha ga t) ≡ true)
    (to_o_lem : Arrives d (sent_at (started (as_a ba)) ha ga) ho)
    (to_a_lem : Arrives d (sent_at (started (as_o bo)) ho go) ha) where
  -- they meet
  pub met : Meeting d 0 (meets d) (enough d (as_o bo) (as_a ba)) bo ba
      (core_at (as_o bo) ho go) (core_at (as_a ba) ha ga) (λ t. kind_of (ho t)) (λ t. kind_of (ha t))
      (said_at (as_o bo) ho go) (said_at (as_a ba) ha ga)
  met =
      subst₂
      (λ c e. Meeting d 0 (meets d) (enough d (as_o bo) (as_a ba)) bo ba c e (λ t. kind_of (ho t)) (λ t. kind_of (ha t))
      (said_at (as_o bo) ho go) (said_at (as_a ba) ha ga))
      (core_own (as_o bo) ho go) (core_own (as_a ba) ha ga)
      (subst₂
      (λ p q. Meeting d 0 (meets d) (enough d (as_o bo) (as_a ba)) bo ba (core_from 0 (as_o bo) ho go) (core_from 0 (as_a ba) ha ga)
      (λ t. kind_of (ho t)) (λ t. kind_of (ha t)) p q)
      (said_own (as_o bo) ho go) (said_own (as_a ba) ha ga)
      (met_late d 0 0 (meets d) (enough d (as_o bo) (as_a ba)) bo ba go ga ho ha ahead zero-le (omega arith) (λ t hx hy. omega arith)
      (omega arith) (omega (arith, limit-o)) (omega (arith, limit-a)) (kept_own (as_o bo) ho go kept_o) (kept_own (as_a ba) ha ga kept_a)
      (subst (λ sent. Arrives d sent ho) (sym (sent_at_once (started (as_a ba)) ha ga)) to_o_lem)
      (subst (λ sent. Arrives d sent ha) (sym (sent_at_once (started (as_o bo)) ho go)) to_a_lem)))
