-- A slot of an open end, in whatever form: an Sd that goes is the last of the last two from then on, and no other byte changes them.
-- Assumes nothing.
use Rattle.std.specs.Prelude.{Option, Some, None}
use mathlib.Core.Path.{◌≡◌, refl, ap}
use mathlib.Core.Bool.{Bool, true, false, cond}
use Prim.Native.Nat.{ℕ, ◌+◌, ◌≤◌}
use native.Mathlib.Omega.{arith}
use lib.Dec.{eqb, ltb}
use borrow.Author.Tests.{ltb-false}
use Rattle.ground.proofs.Test.{by_test, either_way}
use Rattle.channel.specs.declared.byte.Leads.{Leads}
use Rattle.channel.specs.declared.unit.Form.{Form}
use Rattle.channel.proofs.ReadBack.{sd_read}
use Rattle.protocol.specs.Sent.{Alone}
use Rattle.protocol.specs.Opened.{Writing, pair_form, has_pair, opening_sd, opening_bytes, bk_sent, writes_sd, writes_opening, writes_word, writes_unit, writes_offer, changed, writes_claim, held, writes_due, writes_data, writing}
use Rattle.protocol.specs.Carried.{Shown, shown_kind, shown_next}
use Rattle.protocol.specs.declared.Shape.{Shape}
use Rattle.protocol.specs.declared.Shape.TheVariants as shape
use Rattle.protocol.specs.declared.Claim.{Claim}
use Rattle.protocol.specs.declared.Claim.TheVariants.{Free, Second, Owed}
use Rattle.protocol.specs.declared.Outbound.{Outbound}
use Rattle.protocol.specs.declared.Drive.{Drive}
use Rattle.protocol.proofs.Computing.{moving}
use Rattle.leads.proofs.DataShown.{shown_dl, shown_dh}

pub data Tracked (o : Outbound) (h : Shown) (w : Writing) : Type 0 where
  sd : (shown_next w.sent h).last ≡ w.outbound.last → (shown_next w.sent h).before ≡ h.last → w.outbound.before ≡ o.last
      → w.outbound.opening ≤ o.opening + 1 → Tracked o h w
  other : shown_next w.sent h ≡ h → w.outbound.last ≡ o.last → w.outbound.before ≡ o.before → opening_sd ≤ o.opening
      → Tracked o h w

module _ (o : Outbound) (g : Drive) (h : Shown) where
  sd_tracked : (s : Shape) (opening : ℕ) (c : Claim) (leads : Leads) → opening ≤ o.opening + 1 → Tracked o h (writes_sd s o opening c leads g)
  sd_tracked s opening c leads l =
      sd (ap (λ k. (shown_kind k h).last) (sd_read leads (bk_sent s g))) (ap (λ k. (shown_kind k h).before) (sd_read leads (bk_sent s g))) refl l

  pair_shown : (first : Bool) → shown_next (Alone (cond first 0x05 0x0D)) h ≡ h
  unfolding moving
  pair_shown true = refl
  pair_shown false = refl

  opening_tracked : (s : Shape) → Tracked o h (writes_opening s o g)
  unfolding writes_opening
  opening_tracked s =
      by_test (Tracked o h) (ltb o.opening opening_sd) (λ t. sd_tracked s (o.opening + 1) Free g.leads (omega arith))
      (λ t. other (pair_shown (eqb o.opening opening_sd)) refl refl (ltb-false o.opening opening_sd t))

  -- after the first 16 Sd
  module _ (past : opening_sd ≤ o.opening) where
    given_tracked : (s : Shape) (c : Claim) (leads : Leads) → Tracked o h (writes_sd s o o.opening c leads g)
    given_tracked s c leads = sd_tracked s o.opening c leads (omega arith)

    word_tracked : (w : ℕ) (x : Option ℕ) → Tracked o h (writes_word w o g x)
    word_tracked w None = given_tracked (shape.Word w) o.claim g.leads
    word_tracked w (Some u) = other (shown_dl u h) refl refl past

    unit_tracked : (f : Form) (x : Option ℕ) → Tracked o h (writes_unit f o g x)
    unit_tracked f (Some u) = other refl refl refl past
    unit_tracked f None =
        either_way (Tracked o h) (pair_form f) (other refl refl refl past) (given_tracked (shape.Unit f) o.claim g.leads)

    offer_tracked : (s : Shape) → Tracked o h (writes_offer s o g g.offer)
    offer_tracked (shape.Word w) = word_tracked w g.offer
    offer_tracked (shape.Unit f) = unit_tracked f g.offer

    claim_tracked : (s : Shape) (c : Claim) → Tracked o h (writes_claim s o g c)
    claim_tracked s (Second leads) = given_tracked s Owed leads
    claim_tracked s Owed = offer_tracked s
    claim_tracked s Free = either_way (Tracked o h) (changed g.leads o) (given_tracked s (Second g.leads) g.leads) (offer_tracked s)

    due_tracked : (w : ℕ) (d : Option ℕ) → Tracked o h (writes_due w o g d)
    due_tracked w (Some high) = other (shown_dh high h) refl refl past
    due_tracked w None =
        either_way (Tracked o h) (held g.flag o.last.bk o.before.bk) (given_tracked (shape.Word w) o.claim g.leads)
        (claim_tracked (shape.Word w) o.claim)

    data_tracked : (s : Shape) → Tracked o h (writes_data s o g)
    unfolding writes_data
    data_tracked (shape.Word w) = due_tracked w o.due
    data_tracked (shape.Unit f) = either_way (Tracked o h) (pair_form f) (unit_tracked f g.offer) (claim_tracked (shape.Unit f) o.claim)

  sixteen : (s : Shape) → opening_sd ≤ opening_bytes s
  sixteen s = by_test (λ n. opening_sd ≤ n) (has_pair s) (λ t. omega arith) (λ t. omega arith)

  pub tracked : (s : Shape) → Tracked o h (writing s o g)
  unfolding writing
  tracked s =
      by_test (Tracked o h) (ltb o.opening (opening_bytes s)) (λ t. opening_tracked s)
      (λ t. data_tracked (omega (arith, sixteen s, ltb-false o.opening (opening_bytes s) t)) s)
