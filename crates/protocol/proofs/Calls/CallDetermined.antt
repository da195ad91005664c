-- A call is a function of its start and of what it is given: two that are given the same up to a slot are the same up to it.
-- Assumes nothing.
use mathlib.Core.Path.{◌≡◌, refl, ap}
use Prim.Native.Nat.{ℕ, zero, suc, ◌<◌, ◌≤◌}
use native.Mathlib.Omega.{arith}
use Rattle.protocol.specs.Slot.{Step, slot_step, slot_of}
use Rattle.protocol.specs.Call.{end_at, sent_at, delivered_at, taken_at}
use Rattle.protocol.specs.declared.Endpoint.{Endpoint}
use Rattle.protocol.specs.declared.Drive.{Drive}

-- the same slot of the same end
same_slot : {e e' : Endpoint} {heard heard' : ℕ} {g g' : Drive} → e ≡ e' → heard ≡ heard' → g ≡ g'
    → (slot_of e heard g).state ≡ (slot_of e' heard' g').state
same_slot p q r = rw (p, q, r)

same_step : {e e' : Endpoint} {heard heard' : ℕ} {g g' : Drive} → e ≡ e' → heard ≡ heard' → g ≡ g'
    → slot_step e heard g ≡ slot_step e' heard' g'
same_step p q r = rw (p, q, r)

module _ (e : Endpoint) (heard heard' : ℕ → ℕ) (given given' : ℕ → Drive) where
  pub call_determined : (t : ℕ) → ((i : ℕ) → i < t → heard i ≡ heard' i) → ((i : ℕ) → i < t → given i ≡ given' i)
      → end_at e heard given t ≡ end_at e heard' given' t
  unfolding end_at
  call_determined zero h g = refl
  call_determined (suc t) h g =
      same_slot (call_determined t (λ i l. h i (omega arith)) (λ i l. g i (omega arith))) (h t (omega arith)) (g t (omega arith))

  module _ (t : ℕ) (h : (i : ℕ) → i ≤ t → heard i ≡ heard' i) (g : (i : ℕ) → i ≤ t → given i ≡ given' i) where
    step_determined : slot_step (end_at e heard given t) (heard t) (given t) ≡ slot_step (end_at e heard' given' t) (heard' t) (given' t)
    step_determined =
        same_step (call_determined t (λ i l. h i (omega arith)) (λ i l. g i (omega arith))) (h t (omega arith)) (g t (omega arith))

    pub sent_determined : sent_at e heard given t ≡ sent_at e heard' given' t
    sent_determined = ap (λ (s : Step). s.sent) step_determined

    pub delivered_determined : delivered_at e heard given t ≡ delivered_at e heard' given' t
    delivered_determined = ap (λ (s : Step). s.delivered) step_determined

    pub taken_determined : taken_at e heard given t ≡ taken_at e heard' given' t
    taken_determined = ap (λ (s : Step). s.taken) step_determined
