-- From one call to the other where both start in slot 0: what the sender carries is what the receiver delivers, d slots later and the lag of the
-- form. Assumes nothing.
use mathlib.Core.Path.{◌≡◌, sym, ap, ◌∙◌, subst₂}
use mathlib.Core.List.{[]}
use Prim.Native.Nat.{ℕ, ◌+◌, ◌-◌, ◌≤◌, zero-le}
use native.Mathlib.Nat.{sub-zero}
use native.Mathlib.Omega.{arith}
use Rattle.channel.specs.Bytes.{sgidle}
use Rattle.protocol.specs.Sent.{Alone}
use Rattle.protocol.specs.Call.{sent_at, stands_at}
use Rattle.protocol.specs.Carried.{carried_before, delivered_before, lag, shown_after}
use Rattle.protocol.specs.Delivery.{signals_of}
use Rattle.protocol.specs.declared.Shape.{Shape}
use Rattle.protocol.specs.declared.Shape.TheVariants as shape
use Rattle.protocol.specs.declared.Drive.{Drive}
use Rattle.protocol.specs.declared.Outcome.TheVariants as outcome
use Rattle.protocol.specs.declared.Endpoint.{Endpoint}
use Rattle.protocol.proofs.Chain.OwnSlots.{starting_none}
use Rattle.protocol.proofs.Delivery.MirrorKept.{ArrivesOne}
use Rattle.protocol.proofs.Delivery.Stream.{goes}
use Rattle.protocol.proofs.Delivery.Delivers.{SendsFrom, ReadsFrom, delivers_late, signals_arrive_late}

-- A sender and a receiver, d slots apart.
module _ (x d : ℕ) (s : Shape) (small : (w : ℕ) → s ≡ shape.Word w → w ≤ 8)
    (sender receiver : Endpoint) (hs hr : ℕ → ℕ) (gs gr : ℕ → Drive) where
  -- of a sender that is open from slot y on and a receiver that is from slot z on
  abbrev From : (ℕ → Type 0) → ℕ → ℕ → Type 0
  From Q y z =
      (sends : SendsFrom y s sender hs gs) → ReadsFrom z s receiver hr gr
      → ((n : ℕ) → ArrivesOne (goes s sends.drives n).sent (hr (z + n))) → (t : ℕ) → Q t

  abbrev Units : ℕ → Type 0
  Units t = delivered_before receiver hr gr (t + lag s + d) ≡ carried_before sender hs gs t

  abbrev Shows : ℕ → Type 0
  Shows t = signals_of (stands_at receiver hr gr t) ≡ (shown_after (λ m. sent_at sender hs gs (x + m)) (t - (x + d))).standing

  units_own : From Units (x - 0) (x + d - 0)
  units_own sends reads arrives t =
      let slot : t + lag s + d - (lag s + d) ≡ t = omega arith in
      sym (ap (λ f. f (t + lag s + d)) (starting_none [] (delivered_before receiver hr gr)))
      ∙ delivers_late x d 0 0 s small zero-le zero-le sender receiver hs hr gs gr sends reads arrives (t + lag s + d)
      ∙ ap (λ f. f (t + lag s + d - (lag s + d))) (starting_none [] (carried_before sender hs gs))
      ∙ ap (carried_before sender hs gs) slot

  shows_own : From Shows (x - 0) (x + d - 0)
  shows_own sends reads arrives =
      subst₂ (λ stands sent. (t : ℕ) → signals_of (stands t) ≡ (shown_after (λ m. sent (x + m)) (t - (x + d))).standing)
      (starting_none outcome.Exchanging (stands_at receiver hr gr)) (starting_none (Alone sgidle) (sent_at sender hs gs))
      (signals_arrive_late x d 0 0 s small zero-le zero-le sender receiver hs hr gs gr sends reads arrives)

  module _ (sends : SendsFrom x s sender hs gs) (reads : ReadsFrom (x + d) s receiver hr gr)
      (arrives : (n : ℕ) → ArrivesOne (goes s sends.drives n).sent (hr (x + d + n))) where
    -- in every slot, and nothing before
    pub delivers : (t : ℕ) → delivered_before receiver hr gr (t + lag s + d) ≡ carried_before sender hs gs t
    delivers = subst₂ (From Units) (sub-zero x) (sub-zero (x + d)) units_own sends reads arrives

    -- and the signals that the receiver shows are those of the Sd sent
    pub signals_arrive : (t : ℕ) → signals_of (stands_at receiver hr gr t) ≡ (shown_after (λ m. sent_at sender hs gs (x + m)) (t - (x + d))).standing
    signals_arrive = subst₂ (From Shows) (sub-zero x) (sub-zero (x + d)) shows_own sends reads arrives
