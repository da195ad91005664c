-- What is to be sent keeps to what is awaited: through the choice of the byte to send, and after that byte. Assumes nothing.
use mathlib.Core.Path.{◌≡◌}
use mathlib.Core.Bool.{true, false, not, ◌&&◌, false≢true}
use Prim.Native.Nat.{ℕ, ◌+◌, ◌<◌, ◌≤◌, min}
use native.Mathlib.Omega.{arith}
use lib.Dec.{eqb, ltb, leb}
use borrow.Author.Tests.{lt-ltb, le-leb, ltb-true, leb-true, ltb-false, leb-false, le-ltb, eqb-true, not-true}
use Rattle.ground.proofs.Test.{by_test, both_left, both_right}
use Rattle.book.specs.declared.Book.{Book}
use Rattle.protocol.specs.Lengths.{identifier_run, parameter_lead, group_length, all_parameter_bytes}
use Rattle.protocol.specs.Collecting.{awaits_hail, has_identifier, has_all}
use Rattle.protocol.specs.Exchange.{originates, chosen_originating, chosen_answering, advanced, last_of_all, all_sent}
use Rattle.protocol.specs.Ranges.{behind, answering_in, originating_in}
use Rattle.protocol.specs.declared.Awaited.{Awaited}
use Rattle.protocol.specs.declared.Awaited.TheVariants.{Run, Group, Nothing}
use Rattle.protocol.specs.declared.Sending.{Sending}
use Rattle.protocol.specs.declared.Sending.TheVariants.{Idle, Hail, Mask, Parameters, Done}
use Rattle.protocol.specs.declared.Exchange.{Exchange}
use Rattle.protocol.proofs.Kept.Cases.{both, negated, second_fails}
use Rattle.protocol.proofs.Kept.AwaitedMoves.{Moved}

-- what an answerer has chosen to send, by what it awaits
abbrev pub Answers : Book → Awaited → Sending → Type 0
Answers b a Idle = (awaits_hail a ≡ false) × (has_all a ≡ false)
Answers b a (Hail n) = (awaits_hail a ≡ true) × (n ≤ identifier_run)
Answers b a (Mask i) = (behind (i + 1) a ≡ true) × (i < group_length)
Answers b a (Parameters i) = (has_all a ≡ true) × (i < all_parameter_bytes b)
Answers b a Done = ⊥

-- what an originator has chosen to send
abbrev pub Originates : Book → Awaited → Sending → Type 0
Originates b a Idle = awaits_hail a ≡ true
Originates b a (Hail n) = (awaits_hail a ≡ false) × (n ≤ identifier_run)
Originates b a (Mask i) = (has_identifier a ≡ true) × (i < group_length)
Originates b a (Parameters i) = (has_identifier a ≡ true) × (i < all_parameter_bytes b)
Originates b a Done = (has_identifier a ≡ true) × (has_all a ≡ false)

some_parameters : (b : Book) → 1 < all_parameter_bytes b
unfolding parameter_lead
some_parameters b = omega arith

-- the byte goes
module _ (b : Book) where
  -- while the mask goes, the first group is awaited
  idle_behind : (i : ℕ) (a : Awaited) → behind i a ≡ true → answering_in b a Idle ≡ true
  unfolding answering_in
  idle_behind i (Run item count) e = absurd (false≢true e)
  idle_behind i (Group item count) e =
      rw (le-ltb 5 item (omega (arith, eqb-true item 0 (both_left (eqb item 0) (ltb count i) e))))
  idle_behind i Nothing e = absurd (false≢true e)

  pub answering_advanced : (a : Awaited) (s : Sending) → originates b ≡ false → Answers b a s → last_of_all b s ≡ false
      → answering_in b a (advanced b s) ≡ true
  unfolding advanced answering_in
  answering_advanced a Idle o i u = rw (i.0, i.1)
  answering_advanced a (Hail n) o i u = both i.0 (le-leb (min (n + 1) identifier_run) identifier_run (omega arith))
  answering_advanced a (Mask n) o i u =
      by_test (λ s. answering_in b a s ≡ true) (ltb (n + 1) group_length) (λ t. both i.0 t)
      (λ t. rw o (idle_behind (n + 1) a i.0))
  answering_advanced a (Parameters n) o i u =
      let more = leb-false (all_parameter_bytes b) (n + 1) u in
      rw (lt-ltb (n + 1) (all_parameter_bytes b) more)
      (both (both i.0 (le-leb 1 (n + 1) (omega arith))) (lt-ltb (n + 1) (all_parameter_bytes b) more))
  answering_advanced a Done o i u = absurd i

  pub originating_advanced : (a : Awaited) (s : Sending) → originates b ≡ true → Originates b a s → (last_of_all b s && has_all a) ≡ false
      → originating_in b a (advanced b s) ≡ true
  unfolding advanced originating_in identifier_run
  originating_advanced a Idle o i u = i
  originating_advanced a (Hail n) o i u =
      both (both (negated i.0) (le-leb 1 (min (n + 1) identifier_run) (omega arith)))
      (le-leb (min (n + 1) identifier_run) identifier_run (omega arith))
  originating_advanced a (Mask n) o i u =
      by_test (λ s. originating_in b a s ≡ true) (ltb (n + 1) group_length)
      (λ t. both (both i.0 (le-leb 1 (n + 1) (omega arith))) t)
      (λ t. rw o (both i.0 (lt-ltb 0 (all_parameter_bytes b) (omega (arith, some_parameters b)))))
  originating_advanced a (Parameters n) o i u =
      by_test (λ s. originating_in b a s ≡ true) (ltb (n + 1) (all_parameter_bytes b)) (λ t. both i.0 t)
      (λ t. both i.0
      (negated (second_fails (last_of_all b (Parameters n)) (has_all a) u (le-leb (all_parameter_bytes b) (n + 1) (ltb-false (n + 1) (all_parameter_bytes b) t)))))
  originating_advanced a Done o i u = both i.0 (negated i.1)

-- a byte has acted, which made y of what was awaited before
module _ (b : Book) (a : Awaited) (y : Exchange) (m : Moved a y.hearing.awaited) where
  pub answering_chosen : (s : Sending) → answering_in b a s ≡ true → Answers b y.hearing.awaited (chosen_answering y s)
  unfolding chosen_answering answering_in
  answering_chosen Idle i =
      by_test (Answers b y.hearing.awaited) (has_all y.hearing.awaited) (λ t. (t, omega (arith, some_parameters b)))
      (λ t. (m.hail_passed (not-true (awaits_hail a) (both_left (not (awaits_hail a)) (not (has_all a)) i)), t))
  answering_chosen (Hail n) i =
      let hail = both_left (awaits_hail a) (leb n identifier_run) i in
      by_test (Answers b y.hearing.awaited) (awaits_hail y.hearing.awaited)
      (λ t. (t, leb-true n identifier_run (both_right (awaits_hail a) (leb n identifier_run) i)))
      (λ t. (m.hail_comes hail t, omega arith))
  answering_chosen (Mask n) i =
      let l = ltb-true n group_length (both_right (behind n a) (ltb n group_length) i) in
      (m.behind_stays n l (both_left (behind n a) (ltb n group_length) i), l)
  answering_chosen (Parameters n) i =
      let all = both_left (has_all a && leb 1 n) (ltb n (all_parameter_bytes b)) i in (
        m.all_stays (both_left (has_all a) (leb 1 n) all),
        ltb-true n (all_parameter_bytes b) (both_right (has_all a && leb 1 n) (ltb n (all_parameter_bytes b)) i),
      )
  answering_chosen Done i = absurd (false≢true i)

  pub originating_chosen : (s : Sending) → originating_in b a s ≡ true → (all_sent s && has_all y.hearing.awaited) ≡ false
      → Originates b y.hearing.awaited (chosen_originating y s)
  unfolding chosen_originating originating_in
  originating_chosen Idle i u =
      by_test (Originates b y.hearing.awaited) (awaits_hail y.hearing.awaited) (λ t. t) (λ t. (t, omega arith))
  originating_chosen (Hail n) i u =
      let passed = both_left (not (awaits_hail a)) (leb 1 n) (both_left (not (awaits_hail a) && leb 1 n) (leb n identifier_run) i) in
      let due = has_identifier y.hearing.awaited && leb identifier_run n in
      by_test (Originates b y.hearing.awaited) due
      (λ t. (both_left (has_identifier y.hearing.awaited) (leb identifier_run n) t, omega arith))
      (λ t. (
        m.hail_passed (not-true (awaits_hail a) passed),
        leb-true n identifier_run (both_right (not (awaits_hail a) && leb 1 n) (leb n identifier_run) i),
      ))
  originating_chosen (Mask n) i u =
      let whole = has_identifier a && leb 1 n in (
        m.identifier_stays (both_left (has_identifier a) (leb 1 n) (both_left whole (ltb n group_length) i)),
        ltb-true n group_length (both_right whole (ltb n group_length) i),
      )
  originating_chosen (Parameters n) i u = (
    m.identifier_stays (both_left (has_identifier a) (ltb n (all_parameter_bytes b)) i),
    ltb-true n (all_parameter_bytes b) (both_right (has_identifier a) (ltb n (all_parameter_bytes b)) i),
  )
  originating_chosen Done i u = (m.identifier_stays (both_left (has_identifier a) (not (has_all a)) i), u)
