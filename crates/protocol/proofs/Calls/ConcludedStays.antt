-- What has concluded stays as it concluded: an open end but for its line, a refused end wholly, and that sends Sdidle for ever.
-- Assumes nothing.
use Rattle.std.specs.Prelude.{None}
use mathlib.Core.Path.{◌≡◌, refl, ap, ◌∙◌}
use mathlib.Core.Bool.{true, false}
use Prim.Native.Nat.{ℕ, zero, suc, ◌+◌, ◌-◌, ◌≤◌}
use native.Mathlib.Nat.{add-zero, add-suc}
use native.Mathlib.Omega.{arith}
use Rattle.ground.proofs.Test.{by_test}
use Rattle.channel.specs.Bytes.{sdidle}
use Rattle.protocol.specs.Exchange.{entry_of}
use Rattle.protocol.specs.Sent.{Alone}
use Rattle.protocol.specs.Opened.{shape_of, reading, writing}
use Rattle.protocol.specs.Ranges.{well_formed}
use Rattle.protocol.specs.Slot.{open_at, open_step, Step, step, step_at, step_of, offer_allowed, slot_step, slot_of}
use Rattle.protocol.specs.Call.{end_at, sent_at, delivered_at, taken_at}
use Rattle.protocol.specs.Concluding.{StaysOpen}
use Rattle.protocol.specs.declared.Line.{Line}
use Rattle.protocol.specs.declared.Phase.{Phase}
use Rattle.protocol.specs.declared.Phase.TheVariants.{Open, Refused}
use Rattle.protocol.specs.declared.Endpoint.{Endpoint}
use Rattle.protocol.specs.declared.Drive.{Drive}
use Rattle.protocol.specs.declared.SlotAnswer.{SlotAnswer}
use Rattle.protocol.proofs.Calls.SlotPasses.{step_passes}

is_open : (e : Endpoint) {slot version i : ℕ} {line : Line} → e.phase ≡ Open slot version i line → StaysOpen e slot version i e
is_open e {line} q =
    record { line = line; same = ap (λ p. record { book = e.book; nibbles = e.nibbles; values = e.values; phase = p }) q }

module _ (e : Endpoint) (heard : ℕ) (g : Drive) where
  open_step_lem : {slot version i : ℕ} {line : Line} (p : Phase) → p ≡ Open slot version i line
      → StaysOpen e slot version i (step_at e heard g p).state
  unfolding step_at open_step
  open_step_lem {slot} {version} {i} {line} p q =
      let s = shape_of (entry_of e.book i) version in
      rw q
      (record {
        line = record { outbound = (writing s line.outbound g).outbound; inbound = (reading s line.inbound heard).inbound };
        same = refl;
      })

  pub open_slot_lem : {slot version i : ℕ} {line : Line} → e.phase ≡ Open slot version i line
      → StaysOpen e slot version i (slot_of e heard g).state
  unfolding slot_of
  open_slot_lem {slot} {version} {i} {line} q =
      by_test (λ (r : SlotAnswer). StaysOpen e slot version i r.state) (well_formed e)
      (λ t. by_test (λ (r : SlotAnswer). StaysOpen e slot version i r.state) (offer_allowed e g e.phase)
      (λ a. open_step_lem e.phase q) (λ a. is_open e q))
      (λ t. is_open e q)

  refused_step : {number slot : ℕ} → e.phase ≡ Refused number slot → step_of e heard g ≡ step e (Alone sdidle)
  unfolding step_at
  refused_step q = rw q

  pub refused_slot : {number slot : ℕ} → e.phase ≡ Refused number slot → (slot_of e heard g).state ≡ e
  unfolding slot_of
  refused_slot q =
      by_test (λ (r : SlotAnswer). r.state ≡ e) (well_formed e)
      (λ t. by_test (λ (r : SlotAnswer). r.state ≡ e) (offer_allowed e g e.phase)
      (λ a. ap (λ (s : Step). s.state) (refused_step q)) (λ a. refl))
      (λ t. refl)

open_next : (e now : Endpoint) (slot version i : ℕ) (heard : ℕ) (g : Drive) → StaysOpen e slot version i now
    → StaysOpen e slot version i (slot_of now heard g).state
open_next e now slot version i heard g before =
    let after = open_slot_lem now heard g (ap (λ (x : Endpoint). x.phase) before.same) in
    record { line = after.line; same = after.same ∙ ap (λ (x : Endpoint). open_at x slot version i after.line) before.same }

module _ (e : Endpoint) (heard : ℕ → ℕ) (given : ℕ → Drive) where
  next : (t : ℕ) → end_at e heard given (suc t) ≡ (slot_of (end_at e heard given t) (heard t) (given t)).state
  unfolding end_at
  next t = refl

  -- one slot more
  open_one : (n t slot version i : ℕ) → StaysOpen (end_at e heard given t) slot version i (end_at e heard given (t + n))
      → StaysOpen (end_at e heard given t) slot version i (end_at e heard given (t + suc n))
  open_one n t slot version i before =
      rw (add-suc, next)
      (open_next (end_at e heard given t) (end_at e heard given (t + n)) slot version i (heard (t + n)) (given (t + n)) before)

  -- n slots later
  open_more : (n t : ℕ) {slot version i : ℕ} {line : Line} → (end_at e heard given t).phase ≡ Open slot version i line
      → StaysOpen (end_at e heard given t) slot version i (end_at e heard given (t + n))
  open_more zero t q = rw add-zero (is_open (end_at e heard given t) q)
  open_more (suc n) t {slot} {version} {i} q = open_one n t slot version i (open_more n t q)

  refused_more : (n t number slot : ℕ) → (end_at e heard given t).phase ≡ Refused number slot
      → end_at e heard given (t + n) ≡ end_at e heard given t
  refused_more zero t number slot q = rw add-zero
  refused_more (suc n) t number slot q =
      let before = refused_more n t number slot q in
      rw (add-suc, next, before) (refused_slot (end_at e heard given t) (heard (t + n)) (given (t + n)) q)

reached : (t u : ℕ) → t ≤ u → t + (u - t) ≡ u
reached t u later = omega arith

pub open_stays : (e : Endpoint) (heard : ℕ → ℕ) (given : ℕ → Drive) (t u : ℕ) {slot version i : ℕ} {line : Line} → t ≤ u
    → (end_at e heard given t).phase ≡ Open slot version i line → StaysOpen (end_at e heard given t) slot version i (end_at e heard given u)
open_stays e heard given t u later q = rw (reached t u later) at (open_more e heard given (u - t) t q)

pub refused_stays : (e : Endpoint) (heard : ℕ → ℕ) (given : ℕ → Drive) (t u : ℕ) {number slot : ℕ} → t ≤ u
    → (end_at e heard given t).phase ≡ Refused number slot → end_at e heard given u ≡ end_at e heard given t
refused_stays e heard given t u {number} {slot} later q = rw (reached t u later) at (refused_more e heard given (u - t) t number slot q)

-- it sends Sdidle, and neither delivers nor takes
refused_steps : (e : Endpoint) (heard : ℕ → ℕ) (given : ℕ → Drive) (t u : ℕ) {number slot : ℕ} → well_formed (end_at e heard given u) ≡ true → t ≤ u
    → (end_at e heard given t).phase ≡ Refused number slot
    → slot_step (end_at e heard given u) (heard u) (given u) ≡ step (end_at e heard given u) (Alone sdidle)
unfolding offer_allowed
refused_steps e heard given t u w later q =
    let p = ap (λ (x : Endpoint). x.phase) (refused_stays e heard given t u later q) ∙ q in
    step_passes (end_at e heard given u) (heard u) (given u) w (rw p refl)
    ∙ refused_step (end_at e heard given u) (heard u) (given u) p

pub refused_idles : (e : Endpoint) (heard : ℕ → ℕ) (given : ℕ → Drive) (t u : ℕ) {number slot : ℕ} → well_formed (end_at e heard given u) ≡ true → t ≤ u
    → (end_at e heard given t).phase ≡ Refused number slot → sent_at e heard given u ≡ Alone sdidle
refused_idles e heard given t u w later q = ap (λ (s : Step). s.sent) (refused_steps e heard given t u w later q)

pub refused_ignores : (e : Endpoint) (heard : ℕ → ℕ) (given : ℕ → Drive) (t u : ℕ) {number slot : ℕ} → well_formed (end_at e heard given u) ≡ true → t ≤ u
    → (end_at e heard given t).phase ≡ Refused number slot
    → (delivered_at e heard given u ≡ None) × (taken_at e heard given u ≡ false)
refused_ignores e heard given t u w later q = (
  ap (λ (s : Step). s.delivered) (refused_steps e heard given t u w later q),
  ap (λ (s : Step). s.taken) (refused_steps e heard given t u w later q),
)
