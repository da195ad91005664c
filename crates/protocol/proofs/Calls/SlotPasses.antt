-- A slot of a well-formed end passes: in the exchange whatever is given, and else if the offer is allowed. If not, 12 refuses it.
-- Assumes nothing.
use mathlib.Core.Path.{◌≡◌}
use mathlib.Core.Bool.{true, false}
use Prim.Native.Nat.{ℕ}
use Rattle.channel.specs.Bytes.{byte}
use Rattle.protocol.specs.Sent.{Silence, byte_sent}
use Rattle.protocol.specs.Ranges.{well_formed}
use Rattle.protocol.specs.Slot.{exchange_of, step, exchange_step, step_at, step_of, offer_allowed, outcome_of, passes, refuses, slot_step, slot_of, passed_with}
use Rattle.protocol.specs.declared.Awaited.{Awaited}
use Rattle.protocol.specs.declared.Sending.{Sending}
use Rattle.protocol.specs.declared.Phase.TheVariants.{Exchanging}
use Rattle.protocol.specs.declared.Endpoint.{Endpoint}
use Rattle.protocol.specs.declared.Drive.{Drive}
use Rattle.protocol.specs.declared.SlotRefusal.TheVariants.{UnitOutOfRange}

module _ (e : Endpoint) (heard : ℕ) (g : Drive) (w : well_formed e ≡ true) where
  pub slot_passes : offer_allowed e g e.phase ≡ true → slot_of e heard g ≡ passes (step_of e heard g)
  unfolding slot_of
  slot_passes a = rw (w, a)

  pub slot_refused : offer_allowed e g e.phase ≡ false → slot_of e heard g ≡ refuses e UnitOutOfRange
  unfolding slot_of
  slot_refused a = rw (w, a)

  pub step_passes : offer_allowed e g e.phase ≡ true → slot_step e heard g ≡ step_of e heard g
  unfolding slot_step
  step_passes a = rw (w, a)

  -- the reply says what the slot brings, and where the end then stands
  pub reply_passes : offer_allowed e g e.phase ≡ true
      → (slot_of e heard g).reply ≡ passed_with (byte (byte_sent (slot_step e heard g).sent)) (slot_step e heard g).delivered (slot_step e heard g).taken (outcome_of (slot_of e heard g).state)
  unfolding slot_of slot_step
  reply_passes a = rw (w, a)

  pub step_refused : offer_allowed e g e.phase ≡ false → slot_step e heard g ≡ step e Silence
  unfolding slot_step
  step_refused a = rw (w, a)

  pub exchange_passes : {slot version : ℕ} {a : Awaited} {s : Sending} → e.phase ≡ Exchanging slot version a s
      → (slot_of e heard g).state ≡ (exchange_step e.book slot (exchange_of e version a s) heard g).state
  unfolding slot_of offer_allowed step_at
  exchange_passes q = rw (w, q)

  pub exchange_steps : {slot version : ℕ} {a : Awaited} {s : Sending} → e.phase ≡ Exchanging slot version a s
      → slot_step e heard g ≡ exchange_step e.book slot (exchange_of e version a s) heard g
  unfolding slot_step offer_allowed step_at
  exchange_steps q = rw (w, q)
