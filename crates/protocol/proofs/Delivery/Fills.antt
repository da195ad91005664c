-- A unit that goes was offered and taken, or is the all-ones fill; so is each that was carried. Assumes nothing.
use Rattle.std.specs.Prelude.{Option, Some, None}
use mathlib.Core.Path.{◌≡◌, refl, sym, ap, ◌∙◌, subst}
use mathlib.Core.Bool.{Bool, true, false, ◌&&◌}
use mathlib.Core.List.{List, [], ◌∷◌, ◌++◌}
use Prim.Native.Nat.{ℕ, zero, suc, ◌+◌, ◌-◌, ◌≤◌, ◌<◌}
use native.Mathlib.Nat.{not-suc-le-zero, add-zero}
use native.Mathlib.Decide.{dec_lt}
use native.Mathlib.Omega.{arith}
use lib.Dec.{ltb}
use lib.ListN.{length, get_or, length-append, get_or-append}
use lib.Seq.{get_or-append-add}
use Rattle.ground.proofs.Test.{either_way}
use Rattle.channel.specs.declared.unit.Form.{Form}
use Rattle.channel.specs.declared.unit.Form.TheVariants.{Six, SevenV1, SevenV2, Eight}
use Rattle.channel.specs.Forms.{units_of}
use Rattle.protocol.specs.Sent.{Sent, Silence, Alone, Part, Unit}
use Rattle.protocol.specs.Opened.{Writing, pair_form, opening_bytes, opening_sd, writes_word, writes_unit, writes_offer, changed, writes_claim, held, writes_due, writes_opening, writes_data, writing, shape_of}
use Rattle.protocol.specs.Exchange.{entry_of}
use Rattle.protocol.specs.Ranges.{well_formed}
use Rattle.protocol.specs.Slot.{Step, open_step, step_at, offer_allowed, outcome_at, slot_step}
use Rattle.protocol.specs.Call.{end_at, sent_at, taken_at}
use Rattle.protocol.specs.Carried.{fill, offered, carried, carried_before}
use Rattle.protocol.specs.Delivery.{AllOnes, Offered, Filled, CameFrom}
use Rattle.protocol.specs.declared.Shape.{Shape}
use Rattle.protocol.specs.declared.Shape.TheVariants as shape
use Rattle.protocol.specs.declared.Claim.{Claim}
use Rattle.protocol.specs.declared.Claim.TheVariants.{Free, Second, Owed}
use Rattle.protocol.specs.declared.Outbound.{Outbound}
use Rattle.protocol.specs.declared.Phase.{Phase}
use Rattle.protocol.specs.declared.Phase.TheVariants.{Exchanging, Open, Refused}
use Rattle.protocol.specs.declared.Endpoint.{Endpoint}
use Rattle.protocol.specs.declared.Drive.{Drive}
use Rattle.protocol.proofs.Delivery.Quiet.{phase_quiet}

pub record Told (taken : Bool) (o : Option ℕ) (sent : Sent) : Type 0 where
  pub offered : taken ≡ true → Offered o
  pub ones : (f : Form) (u : ℕ) → taken ≡ false → sent ≡ Unit f u → AllOnes f u

-- where none is taken and no unit goes
quiet_told : (taken : Bool) (o : Option ℕ) (sent : Sent) → taken ≡ false → fill sent ≡ [] → Told taken o sent
quiet_told taken o sent e q =
    record {
      offered = λ t. let z : true ≡ false = sym t ∙ e in let w : ◌≡◌ {A = ℕ} 0 1 = cc in absurd (omega arith);
      ones = λ f u t r. let z : u ∷ [] ≡ [] = sym (ap fill r) ∙ q in let w : ◌≡◌ {A = ℕ} 0 1 = cc in absurd (omega arith);
    }

abbrev ToldOf : Drive → Writing → Type 0
ToldOf g w = Told w.taken g.offer w.sent

opening_told : (s : Shape) (o : Outbound) (g : Drive) → ToldOf g (writes_opening s o g)
unfolding writes_opening
opening_told s o g =
    either_way (ToldOf g) (ltb o.opening opening_sd) (quiet_told false g.offer _ refl refl) (quiet_told false g.offer _ refl refl)

word_told : (w : ℕ) (o : Outbound) (g : Drive) (x : Option ℕ) → g.offer ≡ x → ToldOf g (writes_word w o g x)
word_told w o g None e = quiet_told false g.offer _ refl refl
word_told w o g (Some u) e =
    record { offered = λ t. record { unit = u; is = e }; ones = λ f v t r. let z : ◌≡◌ {A = ℕ} 0 1 = cc in absurd (omega arith) }

fill_told : (f : Form) → pair_form f ≡ true → (o : Option ℕ) → Told false o (Unit f (units_of f - 1))
fill_told f p o =
    record {
      offered = λ t. let w : ◌≡◌ {A = ℕ} 0 1 = cc in absurd (omega arith);
      ones =
          λ h u t r.
          let z : f ≡ h = cc in
          let w : units_of f - 1 ≡ u = cc in
          record { form = subst (λ x. pair_form x ≡ true) z p; ones = sym w ∙ ap (λ x. units_of x - 1) z };
    }

unit_told : (f : Form) (o : Outbound) (g : Drive) (x : Option ℕ) → g.offer ≡ x → ToldOf g (writes_unit f o g x)
unit_told f o g (Some u) e =
    record { offered = λ t. record { unit = u; is = e }; ones = λ h v t r. let z : ◌≡◌ {A = ℕ} 0 1 = cc in absurd (omega arith) }
unit_told Six o g None e = quiet_told false g.offer _ refl refl
unit_told SevenV1 o g None e = fill_told SevenV1 refl g.offer
unit_told SevenV2 o g None e = fill_told SevenV2 refl g.offer
unit_told Eight o g None e = fill_told Eight refl g.offer

offer_told : (s : Shape) (o : Outbound) (g : Drive) → ToldOf g (writes_offer s o g g.offer)
offer_told (shape.Word w) o g = word_told w o g g.offer refl
offer_told (shape.Unit f) o g = unit_told f o g g.offer refl

claim_told : (s : Shape) (o : Outbound) (g : Drive) (c : Claim) → ToldOf g (writes_claim s o g c)
claim_told s o g (Second leads) = quiet_told false g.offer _ refl refl
claim_told s o g Owed = offer_told s o g
claim_told s o g Free = either_way (ToldOf g) (changed g.leads o) (quiet_told false g.offer _ refl refl) (offer_told s o g)

due_told : (w : ℕ) (o : Outbound) (g : Drive) (h : Option ℕ) → ToldOf g (writes_due w o g h)
due_told w o g (Some high) = quiet_told false g.offer _ refl refl
due_told w o g None =
    either_way (ToldOf g) (held g.flag o.last.bk o.before.bk) (quiet_told false g.offer _ refl refl)
    (claim_told (shape.Word w) o g o.claim)

data_told : (s : Shape) (o : Outbound) (g : Drive) → ToldOf g (writes_data s o g)
unfolding writes_data
data_told (shape.Word w) o g = due_told w o g o.due
data_told (shape.Unit f) o g = either_way (ToldOf g) (pair_form f) (unit_told f o g g.offer refl) (claim_told (shape.Unit f) o g o.claim)

writing_told : (s : Shape) (o : Outbound) (g : Drive) → ToldOf g (writing s o g)
unfolding writing
writing_told s o g = either_way (ToldOf g) (ltb o.opening (opening_bytes s)) (opening_told s o g) (data_told s o g)

phase_told : (e : Endpoint) (heard : ℕ) (g : Drive) (p : Phase) → Told (step_at e heard g p).taken g.offer (step_at e heard g p).sent
unfolding step_at open_step outcome_at
phase_told e heard g (Exchanging slot version a s) =
    let q = phase_quiet e heard g (Exchanging slot version a s) refl in quiet_told _ g.offer _ q.takes q.sends
phase_told e heard g (Open slot version i line) = writing_told (shape_of (entry_of e.book i) version) line.outbound g
phase_told e heard g (Refused number slot) = quiet_told false g.offer _ refl refl

module _ (e : Endpoint) (heard : ℕ → ℕ) (given : ℕ → Drive) where
  -- in each slot of a call
  pub told : (t : ℕ) → Told (taken_at e heard given t) (given t).offer (sent_at e heard given t)
  unfolding slot_step
  told t =
      let end = end_at e heard given t in
      either_way (λ (s : Step). Told s.taken (given t).offer s.sent) (well_formed end && offer_allowed end (given t) end.phase)
      (phase_told end (heard t) (given t) end.phase) (quiet_told false (given t).offer _ refl refl)

  -- a slot carries one unit at most
  one_carried : (taken : Bool) (o : Option ℕ) (sent : Sent) → length (carried taken o sent) ≤ 1
  one_carried true None sent = omega arith
  one_carried true (Some u) sent = omega arith
  one_carried false o Silence = omega arith
  one_carried false o (Alone b) = omega arith
  one_carried false o (Part place value) = omega arith
  one_carried false o (Unit f u) = omega arith

  filled_by : (sent : Sent) → ((f : Form) (u : ℕ) → sent ≡ Unit f u → AllOnes f u) → 1 ≤ length (fill sent) → Filled sent (get_or (fill sent) 0 0)
  filled_by Silence f l = absurd (omega arith)
  filled_by (Alone b) f l = absurd (omega arith)
  filled_by (Part place value) f l = absurd (omega arith)
  filled_by (Unit g u) f l = record { form = g; sent = refl; ones = f g u refl }

  offered_by : (o : Option ℕ) → 1 ≤ length (offered o) → o ≡ Some (get_or (offered o) 0 0)
  offered_by None l = absurd (omega arith)
  offered_by (Some u) l = refl

  abbrev in_slot : ℕ → List ℕ
  in_slot t = carried (taken_at e heard given t) (given t).offer (sent_at e heard given t)

  offered_slot : (t : ℕ) → 1 ≤ length (in_slot t) → taken_at e heard given t ≡ true → (given t).offer ≡ Some (get_or (in_slot t) 0 0)
  offered_slot t l q =
      subst
      (λ taken. 1 ≤ length (carried taken (given t).offer (sent_at e heard given t)) → (given t).offer ≡ Some (get_or (carried taken (given t).offer (sent_at e heard given t)) 0 0))
      (sym q) (offered_by (given t).offer) l

  filled_slot : (t : ℕ) → 1 ≤ length (in_slot t) → taken_at e heard given t ≡ false → Filled (sent_at e heard given t) (get_or (in_slot t) 0 0)
  filled_slot t l q =
      subst
      (λ taken. 1 ≤ length (carried taken (given t).offer (sent_at e heard given t)) → Filled (sent_at e heard given t) (get_or (carried taken (given t).offer (sent_at e heard given t)) 0 0))
      (sym q) (filled_by (sent_at e heard given t) (λ f u r. (told t).ones f u q r)) l

  slot_carries : (t : ℕ) → 1 ≤ length (in_slot t) → CameFrom e heard given (length (carried_before e heard given t)) (get_or (in_slot t) 0 0)
  slot_carries t l = record { slot = t; before = refl; offered = offered_slot t l; filled = filled_slot t l }

  -- whatever was carried was offered in its place, or is fill
  pub carried_from : (t place : ℕ) → place < length (carried_before e heard given t) → CameFrom e heard given place (get_or (carried_before e heard given t) place 0)
  unfolding carried_before
  carried_from zero place l = absurd (not-suc-le-zero l)
  carried_from (suc t) place l = go (dec_lt place (length (carried_before e heard given t))) (carried_from t place)
    where
      past : List ℕ
      past = carried_before e heard given t

      go : Dec (place < length past) → (place < length past → CameFrom e heard given place (get_or past place 0))
          → CameFrom e heard given place (get_or (past ++ in_slot t) place 0)
      go (yes h) earlier = subst (CameFrom e heard given place) (sym (get_or-append past (in_slot t) 0 place h)) (earlier h)
      go (no h) earlier =
          let most = one_carried (taken_at e heard given t) (given t).offer (sent_at e heard given t) in
          let sum : length (past ++ in_slot t) ≡ length past + length (in_slot t) = length-append past (in_slot t) in
          let z : length past ≡ place = omega arith in
          subst (λ p. CameFrom e heard given p (get_or (past ++ in_slot t) p 0)) z
          (subst (CameFrom e heard given (length past)) (sym (get_or-append-add past (in_slot t) 0 0) ∙ ap (λ n. get_or (past ++ in_slot t) n 0) (add-zero (length past)))
          (slot_carries t (omega arith)))
