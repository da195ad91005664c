-- From one call to the other: what the sender carries in all its slots is what the receiver delivers in all of its. Assumes nothing.
use Rattle.std.specs.Prelude.{Some, None}
use mathlib.Core.Path.{◌≡◌, refl, sym, ap, ap₂, ◌∙◌, subst}
use mathlib.Core.Bool.{true, false}
use mathlib.Core.List.{List, [], ◌++◌}
use Prim.Native.Nat.{ℕ, zero, suc, ◌+◌, ◌-◌, ◌≤◌, ◌<◌}
use native.Mathlib.Nat.{add-zero, add-suc}
use native.Mathlib.Decide.{dec_lt}
use native.Mathlib.Omega.{arith}
use Rattle.channel.specs.Bytes.{sgidle}
use Rattle.protocol.specs.Sent.{Sent, Alone}
use Rattle.protocol.specs.Opened.{has_unit, fresh_line, idle_signals}
use Rattle.protocol.specs.Call.{sent_at, delivered_at, taken_at, stands_at}
use Rattle.protocol.specs.Carried.{carried, fill, carried_before, delivered_before, lag, shown_next, shown_after}
use Rattle.protocol.specs.Delivery.{signals_of}
use Rattle.protocol.specs.Late.{starting}
use Rattle.protocol.specs.declared.Shape.{Shape}
use Rattle.protocol.specs.declared.Shape.TheVariants as shape
use Rattle.protocol.specs.declared.Drive.{Drive}
use Rattle.protocol.specs.declared.Outcome.{Outcome}
use Rattle.protocol.specs.declared.Outcome.TheVariants as outcome
use Rattle.protocol.specs.declared.Endpoint.{Endpoint}
use Rattle.protocol.proofs.Chain.OwnSlots.{not_yet, once_started}
use Rattle.protocol.proofs.Delivery.MirrorKept.{ArrivesOne}
use Rattle.protocol.proofs.Delivery.OpenRuns.{ins}
use Rattle.protocol.proofs.Delivery.Stream.{goes, comes, carried_in, delivered_in, all_delivered, all_shown}

-- The sender e, open for sending from slot x on. What it is given counts from then on, but for an offer in the slot in which it opens.
pub record SendsFrom (x : ℕ) (s : Shape) (e : Endpoint) (heard : ℕ → ℕ) (given : ℕ → Drive) : Type 0 where
  pub drives : ℕ → Drive
  pub leads : (n : ℕ) → (drives n).leads ≡ (given (x + n)).leads
  -- nothing is carried before
  pub quiet : (t : ℕ) → t < x → (taken_at e heard given t ≡ false) × (fill (sent_at e heard given t) ≡ [])
  pub sent : (n : ℕ) → sent_at e heard given (x + n) ≡ (goes s drives n).sent
  pub carries : (n : ℕ) → carried (taken_at e heard given (x + n)) (given (x + n)).offer (sent_at e heard given (x + n))
      ≡ carried (goes s drives n).taken (drives n).offer (goes s drives n).sent
  pub allowed : (n u : ℕ) → (drives n).offer ≡ Some u → has_unit s u ≡ true

-- the receiver e, open for receiving from slot y on
pub record ReadsFrom (y : ℕ) (s : Shape) (e : Endpoint) (heard : ℕ → ℕ) (given : ℕ → Drive) : Type 0 where
  pub quiet : (t : ℕ) → t < y → delivered_at e heard given t ≡ None
  pub delivered : (n : ℕ) → delivered_at e heard given (y + n) ≡ (comes s (λ m. heard (y + m)) n).delivered
  -- before, it shows what it shows as if two Sdidle had come
  pub idle : (t : ℕ) → t < y → signals_of (stands_at e heard given t) ≡ idle_signals
  pub shows : (n : ℕ) → signals_of (stands_at e heard given (y + n)) ≡ (ins s (λ m. heard (y + m)) fresh_line.inbound n).standing

module _ (e : Endpoint) (heard : ℕ → ℕ) (given : ℕ → Drive) where
  carried_none : (x : ℕ) → ((t : ℕ) → t < x → (taken_at e heard given t ≡ false) × (fill (sent_at e heard given t) ≡ [])) → carried_before e heard given x ≡ []
  unfolding carried_before
  carried_none zero q = refl
  carried_none (suc x) q =
      rw (carried_none x (λ t l. q t (omega arith)), (q x (omega arith)).0, (q x (omega arith)).1) refl

  delivered_none : (y : ℕ) → ((t : ℕ) → t < y → delivered_at e heard given t ≡ None) → delivered_before e heard given y ≡ []
  unfolding delivered_before
  delivered_none zero q = refl
  delivered_none (suc y) q = rw (delivered_none y (λ t l. q t (omega arith)), q y (omega arith)) refl

  module _ (x : ℕ) (s : Shape) (r : SendsFrom x s e heard given) where
    carried_from : (n : ℕ) → carried_before e heard given (x + n) ≡ carried_in s r.drives n
    unfolding carried_before carried_in
    carried_from zero = rw (add-zero x) (carried_none x r.quiet)
    carried_from (suc n) = rw (add-suc, carried_from n) (ap (λ l. carried_in s r.drives n ++ l) (r.carries n))

  module _ (y : ℕ) (s : Shape) (r : ReadsFrom y s e heard given) where
    delivered_from : (n : ℕ) → delivered_before e heard given (y + n) ≡ delivered_in s (λ m. heard (y + m)) n
    unfolding delivered_before delivered_in
    delivered_from zero = rw (add-zero y) (delivered_none y r.quiet)
    delivered_from (suc n) = rw (add-suc, delivered_from n, r.delivered n) refl

-- A sender and a receiver, d slots apart. By the common slots they start in slots b and c, and the sender is open for sending from slot x on.
module _ (x d b c : ℕ) (s : Shape) (small : (w : ℕ) → s ≡ shape.Word w → w ≤ 8) (begun : b ≤ x) (there : c ≤ x + d)
    (sender receiver : Endpoint) (hs hr : ℕ → ℕ) (gs gr : ℕ → Drive)
    (sends : SendsFrom (x - b) s sender hs gs) (reads : ReadsFrom (x + d - c) s receiver hr gr)
    (arrives : (n : ℕ) → ArrivesOne (goes s sends.drives n).sent (hr (x + d - c + n))) where
  abbrev carried_by : ℕ → List ℕ
  carried_by = starting b [] (carried_before sender hs gs)

  abbrev delivered_by : ℕ → List ℕ
  delivered_by = starting c [] (delivered_before receiver hr gr)

  none_carried : (t : ℕ) → t ≤ x → carried_by t ≡ []
  none_carried t l = go (dec_lt t b)
    where
      go : Dec (t < b) → carried_by t ≡ []
      go (yes h) = not_yet b [] (carried_before sender hs gs) t h
      go (no h) =
          once_started b [] (carried_before sender hs gs) t (omega arith)
          ∙ carried_none sender hs gs (t - b) (λ u k. sends.quiet u (omega arith))

  none_delivered : (t : ℕ) → t ≤ x + d → delivered_by t ≡ []
  none_delivered t l = go (dec_lt t c)
    where
      go : Dec (t < c) → delivered_by t ≡ []
      go (yes h) = not_yet c [] (delivered_before receiver hr gr) t h
      go (no h) =
          once_started c [] (delivered_before receiver hr gr) t (omega arith)
          ∙ delivered_none receiver hr gr (t - c) (λ u k. reads.quiet u (omega arith))

  opened_delivers : (n : ℕ) → delivered_by (x + n + lag s + d) ≡ carried_by (x + n)
  opened_delivers n =
      let own-c : x + n + lag s + d - c ≡ x + d - c + (n + lag s) = omega arith in
      let own-b : x + n - b ≡ x - b + n = omega arith in
      once_started c [] (delivered_before receiver hr gr) (x + n + lag s + d) (omega arith)
      ∙ ap (delivered_before receiver hr gr) own-c
      ∙ delivered_from receiver hr gr (x + d - c) s reads (n + lag s)
      ∙ all_delivered s sends.drives (λ m. hr (x + d - c + m)) small sends.allowed arrives n
      ∙ sym (carried_from sender hs gs (x - b) s sends n)
      ∙ ap (carried_before sender hs gs) (sym own-b)
      ∙ sym (once_started b [] (carried_before sender hs gs) (x + n) (omega arith))

  lag_most : (t : Shape) → lag t ≤ 1
  lag_most (shape.Word w) = omega arith
  lag_most (shape.Unit f) = omega arith

  -- in every slot, and nothing before
  pub delivers_late : (t : ℕ) → delivered_by t ≡ carried_by (t - (lag s + d))
  delivers_late t = go (dec_lt (x + d) t)
    where
      go : Dec (x + d < t) → delivered_by t ≡ carried_by (t - (lag s + d))
      go (yes l) =
          let n = t - (x + lag s + d) in
          let delivered-by : t ≡ x + n + lag s + d = omega (arith, lag_most s) in
          let carried-by : x + n ≡ t - (lag s + d) = omega (arith, lag_most s) in
          ap delivered_by delivered-by ∙ opened_delivers n ∙ ap carried_by carried-by
      go (no l) = none_delivered t (omega arith) ∙ sym (none_carried (t - (lag s + d)) (omega arith))

  abbrev sent_by : ℕ → Sent
  sent_by = starting b (Alone sgidle) (sent_at sender hs gs)

  abbrev stands_by : ℕ → Outcome
  stands_by = starting c outcome.Exchanging (stands_at receiver hr gr)

  -- what it sends as an open end, by the common slots
  sends_by : (n : ℕ) → sent_by (x + n) ≡ (goes s sends.drives n).sent
  sends_by n =
      let own : x + n - b ≡ x - b + n = omega arith in
      once_started b (Alone sgidle) (sent_at sender hs gs) (x + n) (omega arith) ∙ ap (sent_at sender hs gs) own ∙ sends.sent n

  shown_as : (n : ℕ) → shown_after (λ m. sent_by (x + m)) n ≡ shown_after (λ m. (goes s sends.drives m).sent) n
  unfolding shown_after
  shown_as zero = refl
  shown_as (suc n) = ap₂ shown_next (sends_by n) (shown_as n)

  idle_shown : (t : ℕ) → t < x + d → signals_of (stands_by t) ≡ idle_signals
  idle_shown t l = go (dec_lt t c)
    where
      go : Dec (t < c) → signals_of (stands_by t) ≡ idle_signals
      go (yes h) = ap signals_of (not_yet c outcome.Exchanging (stands_at receiver hr gr) t h)
      go (no h) =
          ap signals_of (once_started c outcome.Exchanging (stands_at receiver hr gr) t (omega arith)) ∙ reads.idle (t - c) (omega arith)

  opened_shows : (n : ℕ) → signals_of (stands_by (x + d + n)) ≡ (shown_after (λ m. sent_by (x + m)) n).standing
  opened_shows n =
      let own : x + d + n - c ≡ x + d - c + n = omega arith in
      ap signals_of (once_started c outcome.Exchanging (stands_at receiver hr gr) (x + d + n) (omega arith))
      ∙ ap (λ u. signals_of (stands_at receiver hr gr u)) own
      ∙ reads.shows n
      ∙ all_shown s sends.drives (λ m. hr (x + d - c + m)) small sends.allowed arrives n
      ∙ sym (ap (λ h. h.standing) (shown_as n))

  -- and the signals that the receiver shows are those of the Sd sent
  pub signals_arrive_late : (t : ℕ) → signals_of (stands_by t) ≡ (shown_after (λ m. sent_by (x + m)) (t - (x + d))).standing
  unfolding shown_after
  signals_arrive_late t = go (dec_lt t (x + d))
    where
      go : Dec (t < x + d) → signals_of (stands_by t) ≡ (shown_after (λ m. sent_by (x + m)) (t - (x + d))).standing
      go (yes l) =
          let z : 0 ≡ t - (x + d) = omega arith in
          subst (λ n. signals_of (stands_by t) ≡ (shown_after (λ m. sent_by (x + m)) n).standing) z (idle_shown t l)
      go (no l) =
          let z : x + d + (t - (x + d)) ≡ t = omega arith in
          subst (λ u. signals_of (stands_by u) ≡ (shown_after (λ m. sent_by (x + m)) (t - (x + d))).standing) z
          (opened_shows (t - (x + d)))
