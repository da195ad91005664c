-- Two ends that start in slots o and a of the common count meet in slot h: the first in which O has started and A's first byte has come.
-- Assumes nothing.
use mathlib.Core.Path.{◌≡◌, refl, ap, ◌∙◌, subst}
use mathlib.Core.Bool.{true, false}
use Prim.Native.Nat.{ℕ, ◌+◌, ◌-◌, ◌/◌, ◌≤◌, ◌<◌}
use native.Mathlib.Nat.{le_refl, sub_self}
use native.Mathlib.Decide.{dec_lt}
use native.Mathlib.Omega.{arith}
use Rattle.book.specs.declared.Book.{Book}
use Rattle.channel.specs.declared.kind.Kind.{Kind}
use Rattle.channel.specs.Bytes.{sdidle, sgidle}
use Rattle.channel.specs.Kinds.{kind_of}
use Rattle.channel.proofs.ReadBack.{b8_ignored}
use Rattle.protocol.specs.Schedule.{concludes_o}
use Rattle.protocol.specs.Collecting.{of_run}
use Rattle.protocol.specs.Sent.{Sent, Alone}
use Rattle.protocol.specs.Slot.{started}
use Rattle.protocol.specs.Call.{sent_at}
use Rattle.protocol.specs.Damage.{Arrives}
use Rattle.protocol.specs.Late.{Later, OriginatorLater, AnswererLater, starts_o, starts_a, since, starting, sent_from, meets_late}
use Rattle.protocol.proofs.Computing.{moving}
use Rattle.protocol.specs.Ranges.{well_formed}
use Rattle.protocol.specs.declared.Drive.{Drive}
use Rattle.protocol.proofs.Chain.Segments.{Move, Said, Says, Runs, During, join, hold, hold_said}
use Rattle.protocol.proofs.Chain.Core.{core}
use Rattle.protocol.proofs.Chain.Link.{Link, arrive}
use Rattle.protocol.proofs.Chain.Hail.{wait_o, hail_a, hails_a, wait_again}
use Rattle.protocol.proofs.Chain.Roles.{as_o, as_a}
use Rattle.protocol.proofs.Chain.Meeting.{Meeting, sdidle_counts_not}
use Rattle.protocol.proofs.Chain.Timed.{core_at, end}
use Rattle.protocol.proofs.Chain.OwnSlots.{not_yet, core_from, said_from, runs_from}
use Rattle.protocol.proofs.Chain.FromBytes.{link_late}

-- what holds from a slot on holds from a later one
runs_later : {S : Type 0} {f : S → Kind → Move S} {from : ℕ} {s : ℕ → S} {heard : ℕ → Kind} {out : ℕ → Said} (x : ℕ) → from ≤ x
    → Runs f from s heard out → Runs f x s heard out
runs_later x h r = record { to = λ t l. r.to t (omega arith); said = λ t l. r.said t (omega arith) }

link_later : {from n d : ℕ} {out : ℕ → Said} {heard : ℕ → Kind} (x : ℕ) → from ≤ x → Link from n d out heard → Link x n d out heard
link_later x h l = record { alone = λ t b k. l.alone t b (omega arith); group = λ t v k. l.group t v (omega arith) }

-- 7F is no Sgvi
sgidle_counts_not : of_run 0 (kind_of sgidle) ≡ false
unfolding moving
sgidle_counts_not = refl

-- until the first byte of an end that starts in slot s comes, 7F comes
before_first : (d s : ℕ) (own : ℕ → Sent) (heard : ℕ → ℕ) → Arrives d (starting s (Alone sgidle) own) heard
    → (t : ℕ) → t < s + d → of_run 0 (kind_of (heard t)) ≡ false
before_first d s own heard a t l = ap (of_run 0) (b8_ignored (heard t) sgidle (go (dec_lt t d))) ∙ sgidle_counts_not
  where
    go : Dec (t < d) → heard t / 2 ≡ sgidle / 2
    go (yes h) = a.early t h
    go (no h) =
        let z : t - d + d ≡ t = omega arith in
        subst (λ u. heard u / 2 ≡ sgidle / 2) z (a.alone (t - d) sgidle (not_yet s (Alone sgidle) own (t - d) (omega arith)))

module _ (d o a h n : ℕ) (bo ba : Book) (go ga : ℕ → Drive) (ho ha : ℕ → ℕ)
    (ahead : 1 ≤ d) (later-o : o ≤ h) (later-a : a + d ≤ h) (soonest : (t : ℕ) → o ≤ t → t < h → t < a + d)
    (room : concludes_o h d (as_o bo) (as_a ba) < n) (limit-o : n ≤ o + bo.limit) (limit-a : n ≤ a + ba.limit)
    (kept_o : (t : ℕ) → well_formed (end (as_o bo) (since o ho) (since o go) t) ≡ true)
    (kept_a : (t : ℕ) → well_formed (end (as_a ba) (since a ha) (since a ga) t) ≡ true)
    (to_o_lem : Arrives d (sent_from a (started (as_a ba)) ha ga) ho)
    (to_a_lem : Arrives d (sent_from o (started (as_o bo)) ho go) ha) where
  link_o : Link a n d (said_from a (as_a ba) ha ga) (λ t. kind_of (ho t))
  link_o = link_late a (as_a ba) (since a ha) (since a ga) kept_a d n limit-a ho to_o_lem

  link_a : Link o n d (said_from o (as_o bo) ho go) (λ t. kind_of (ha t))
  link_a = link_late o (as_o bo) (since o ho) (since o go) kept_o d n limit-o ha to_a_lem

  begins_o : core_from o (as_o bo) ho go o ≡ wait_o 0
  unfolding moving core_at
  begins_o = ap (core_at (as_o bo) (since o ho) (since o go)) (sub_self o)

  begins_a : core_from a (as_a ba) ha ga a ≡ hail_a 0 0
  unfolding moving core_at
  begins_a = ap (core_at (as_a ba) (since a ha) (since a ga)) (sub_self a)

  -- O waits from its start on
  o_waits : During o h (λ t. core (as_o bo) (wait_o 0) (kind_of (ho t)) ≡ record { to = wait_o 0; out = Says (Alone sdidle) })
  o_waits t hx hy = wait_again bo 0 (kind_of (ho t)) (before_first d a (sent_at (started (as_a ba)) (since a ha) (since a ga)) ho to_o_lem t (soonest t hx hy))

  waits_o_lem : core_from o (as_o bo) ho go h ≡ wait_o 0
  waits_o_lem =
      hold (runs_from o (as_o bo) ho go) o h (wait_o 0) (le_refl o) begins_o (λ t hx hy. ap (λ q. q.to) (o_waits t hx hy)) h later-o (le_refl h)

  idles_o : During o h (λ t. said_from o (as_o bo) ho go t ≡ Says (Alone sdidle))
  idles_o t hx hy =
      hold_said (runs_from o (as_o bo) ho go) o h (wait_o 0) (le_refl o) begins_o (λ t hx hy. ap (λ q. q.to) (o_waits t hx hy)) t hx hy
      ∙ ap (λ q. q.out) (o_waits t hx hy)

  quiet_a : During a (h + d) (λ t. of_run 0 (kind_of (ha t)) ≡ false)
  quiet_a =
      join (o + d)
      (λ t hx hy. before_first d o (sent_at (started (as_o bo)) (since o ho) (since o go)) ha to_a_lem t hy)
      (λ t hx hy. ap (of_run 0) (arrive link_a o h sdidle (le_refl o) (omega (arith, room)) idles_o t hx hy) ∙ sdidle_counts_not)

  -- they meet
  pub met_late : Meeting d a h n bo ba
      (core_from o (as_o bo) ho go) (core_from a (as_a ba) ha ga) (λ t. kind_of (ho t)) (λ t. kind_of (ha t))
      (said_from o (as_o bo) ho go) (said_from a (as_a ba) ha ga)
  met_late =
      record {
        ahead = ahead;
        apart = later-a;
        room = room;
        runs_o = runs_later h later-o (runs_from o (as_o bo) ho go);
        runs_a = runs_from a (as_a ba) ha ga;
        to_o = link_o;
        to_a = link_later h later-o link_a;
        waits = waits_o_lem;
        hails = hails_a 0 0 (le_refl 0) begins_a;
        quiet = quiet_a;
      }

-- the slot in which ends meet of which one starts e slots after the other is that slot
module _ (d e : ℕ) where
  pub after_o : (later : Later) → starts_o later e ≤ meets_late later d e
  after_o OriginatorLater = omega arith
  after_o AnswererLater = omega arith

  pub after_a : (later : Later) → starts_a later e + d ≤ meets_late later d e
  after_a OriginatorLater = omega arith
  after_a AnswererLater = omega arith

  pub first : (later : Later) (t : ℕ) → starts_o later e ≤ t → t < meets_late later d e → t < starts_a later e + d
  first OriginatorLater t hx hy = omega arith
  first AnswererLater t hx hy = omega arith

  -- and no later than slot d + e
  pub meets_by : (later : Later) → meets_late later d e ≤ d + e
  meets_by OriginatorLater = omega arith
  meets_by AnswererLater = omega arith
