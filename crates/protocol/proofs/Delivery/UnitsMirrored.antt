-- Forms 6, 7 and 8: the receiving half mirrors the sending half of the other end, unit by unit. Assumes nothing.
use Rattle.std.specs.Prelude.{Option, Some, None}
use mathlib.Core.Path.{◌≡◌, refl, sym, ap, ◌∙◌, subst}
use mathlib.Core.Bool.{Bool, true, false, cond}
use mathlib.Core.List.{List, [], ◌∷◌}
use Prim.Native.Nat.{ℕ, ◌+◌, ◌/◌, ◌-◌, ◌≤◌, ◌<◌}
use native.Mathlib.Omega.{arith}
use borrow.Author.Tests.{lt-ltb, ltb-true, ltb-false}
use native.Mathlib.Decide.{dec_lt}
use lib.Dec.{eqb, ltb}
use Rattle.ground.proofs.Test.{by_test}
use Rattle.channel.specs.declared.unit.Form.{Form}
use Rattle.channel.specs.declared.unit.Form.TheVariants.{Six, SevenV1, SevenV2, Eight}
use Rattle.channel.specs.declared.byte.Leads.{Leads}
use Rattle.channel.specs.Bytes.{sd_byte}
use Rattle.channel.specs.Forms.{units_of, fits}
use Rattle.protocol.specs.Sent.{Alone, Unit}
use Rattle.protocol.specs.Opened.{opening_bytes, pair_form, reads, reading, writes, writes_sd, writes_unit, changed, writes_claim, writing, writes_opening, writes_data}
use Rattle.protocol.proofs.Computing.{moving}
use Rattle.protocol.specs.Carried.{carried, Shown, shown_next}
use Rattle.protocol.specs.declared.Shape.TheVariants as shape
use Rattle.protocol.specs.declared.Claim.{Claim}
use Rattle.protocol.specs.declared.Claim.TheVariants.{Free, Second, Owed}
use Rattle.protocol.specs.declared.Outbound.{Outbound}
use Rattle.protocol.specs.declared.Inbound.{Inbound}
use Rattle.protocol.specs.declared.Drive.{Drive}
use Rattle.protocol.proofs.Delivery.MirrorKept.{ArrivesOne, Signalled, signalled_sd, signalled_on, Kept, at_once, kept_as}
use Rattle.protocol.proofs.Delivery.UnitsRead.{reads_sd_lem, reads_05, reads_0d, reads_six_lem, reads_unit}

-- how much of the pair has come, by how many of the first bytes have gone
abbrev pub pair_after : ℕ → ℕ
pair_after n = cond (ltb n 17) 0 (cond (ltb n 18) 1 2)

pub record Units (f : Form) (o : Outbound) (i : Inbound) (h : Shown) (pending : List ℕ) : Type 0 where
  pub signals : Signalled h i
  pub empty : pending ≡ []
  pub pair : i.pair ≡ pair_after o.opening
  pub opening : o.opening ≤ opening_bytes (shape.Unit f)

-- the mirror after what was sent and read
module _ (f : Form) (o : Outbound) (i : Inbound) (h : Shown) (g : Drive) (heard : ℕ) (m : Units f o i h []) where
  units_sd : (opening : ℕ) (c : Claim) (leads : Leads) → eqb i.pair 2 ≡ false → 0 ≡ pair_after opening → opening ≤ opening_bytes (shape.Unit f)
      → heard / 2 ≡ sd_byte leads false / 2
      → Kept (Units f) at_once h [] (writes_sd (shape.Unit f) o opening c leads g) (reading (shape.Unit f) i heard) g.offer
  units_sd opening c leads e z l a =
      rw (reads_sd_lem i heard f leads e a)
      (record {
        now = [];
        mirror = record { signals = signalled_sd m.signals leads false; empty = refl; pair = z; opening = l };
        units = refl;
        delivers = refl;
      })

  -- a byte alone that is no Sd: of the pair
  units_pair : (b pair : ℕ) (opening : ℕ) → reading (shape.Unit f) i heard ≡ reads i None pair None → shown_next (Alone b) h ≡ h
      → pair ≡ pair_after opening → opening ≤ opening_bytes (shape.Unit f)
      → Kept (Units f) at_once h [] (writes o opening None (Alone b) false) (reading (shape.Unit f) i heard) g.offer
  units_pair b pair opening r s z l =
      rw r
      (record {
        now = [];
        mirror = rw s (record { signals = signalled_on m.signals None pair None; empty = refl; pair = z; opening = l });
        units = refl;
        delivers = refl;
      })

  -- a unit, taken or fill
  units_one : (u pair : ℕ) (taken : Bool) → reading (shape.Unit f) i heard ≡ reads i None pair (Some u) → pair ≡ pair_after o.opening
      → carried taken g.offer (Unit f u) ≡ u ∷ []
      → Kept (Units f) at_once h [] (writes o o.opening None (Unit f u) taken) (reading (shape.Unit f) i heard) g.offer
  units_one u pair taken r z c =
      rw r
      (record {
        now = [];
        mirror = record { signals = signalled_on m.signals None pair (Some u); empty = refl; pair = z; opening = m.opening };
        units = c;
        delivers = sym c;
      })

-- one slot of form 6
module _ (o : Outbound) (i : Inbound) (h : Shown) (g : Drive) (heard : ℕ) where
  module _ (z : o.opening ≡ 16) (allowed : (u : ℕ) → g.offer ≡ Some u → fits Six u ≡ true) (m : Units Six o i h []) where
    six_sd : (c : Claim) (leads : Leads) → heard / 2 ≡ sd_byte leads false / 2
        → Kept (Units Six) at_once h [] (writes_sd (shape.Unit Six) o o.opening c leads g) (reading (shape.Unit Six) i heard) g.offer
    six_sd c leads a = units_sd Six o i h g heard m o.opening c leads (rw (m.pair, z) refl) (rw z refl) m.opening a

    six_offer : (x : Option ℕ) → g.offer ≡ x → ArrivesOne (writes_unit Six o g x).sent heard
        → Kept (Units Six) at_once h [] (writes_unit Six o g x) (reading (shape.Unit Six) i heard) g.offer
    six_offer None e a = six_sd o.claim g.leads a
    six_offer (Some u) e a =
        units_one Six o i h g heard m u 0 true (reads_six_lem i heard u (allowed u e) a) (rw z refl) (rw e refl)

    six_claim : (c : Claim) → ArrivesOne (writes_claim (shape.Unit Six) o g c).sent heard
        → Kept (Units Six) at_once h [] (writes_claim (shape.Unit Six) o g c) (reading (shape.Unit Six) i heard) g.offer
    six_claim (Second leads) a = six_sd Owed leads a
    six_claim Owed a = six_offer g.offer refl a
    six_claim Free a =
        by_test
        (λ x. ArrivesOne x.sent heard → Kept (Units Six) at_once h [] x (reading (shape.Unit Six) i heard) g.offer)
        (changed g.leads o) (λ t. six_sd (Second g.leads) g.leads) (λ t. six_offer g.offer refl) a

  opening_six : ltb o.opening 16 ≡ true → writing (shape.Unit Six) o g ≡ writes_sd (shape.Unit Six) o (o.opening + 1) Free g.leads g
  unfolding writing writes_opening
  opening_six e = rw e refl

  data_six : ltb o.opening 16 ≡ false → writing (shape.Unit Six) o g ≡ writes_claim (shape.Unit Six) o g o.claim
  unfolding writing writes_data
  data_six e = rw e refl

  none_yet : (n : ℕ) → n ≤ 16 → 0 ≡ pair_after n
  none_yet n l = rw (lt-ltb n 17 (omega arith)) refl

  six_step : ((u : ℕ) → g.offer ≡ Some u → fits Six u ≡ true) → Units Six o i h []
      → ArrivesOne (writing (shape.Unit Six) o g).sent heard → Kept (Units Six) at_once h [] (writing (shape.Unit Six) o g) (reading (shape.Unit Six) i heard) g.offer
  six_step allowed m a = go (ltb o.opening 16) refl
    where
      no_pair : eqb i.pair 2 ≡ false
      no_pair = ap (λ n. eqb n 2) (m.pair ∙ sym (none_yet o.opening m.opening))

      go : (x : Bool) → ltb o.opening 16 ≡ x → Kept (Units Six) at_once h [] (writing (shape.Unit Six) o g) (reading (shape.Unit Six) i heard) g.offer
      go true e =
          let l : o.opening < 16 = ltb-true o.opening 16 e in
          kept_as heard (opening_six e) a (units_sd Six o i h g heard m (o.opening + 1) Free g.leads no_pair (none_yet (o.opening + 1) (omega arith)) (omega arith))
      go false e =
          let l : 16 ≤ o.opening = ltb-false o.opening 16 e in
          let z : o.opening ≡ 16 = omega (arith, m.opening) in
          kept_as heard (data_six e) a (six_claim z allowed m o.claim)

-- one slot of forms 7 and 8
module _ (f : Form) (p : pair_form f ≡ true) (o : Outbound) (i : Inbound) (h : Shown) (g : Drive) (heard : ℕ) where
  opening_is : opening_bytes (shape.Unit f) ≡ 18
  opening_is = rw p refl

  stream_sd : o.opening < 16 → writing (shape.Unit f) o g ≡ writes_sd (shape.Unit f) o (o.opening + 1) Free g.leads g
  unfolding writing writes_opening
  stream_sd l = rw (p, lt-ltb o.opening 18 (omega arith), lt-ltb o.opening 16 l) refl

  stream_05 : o.opening ≡ 16 → writing (shape.Unit f) o g ≡ writes o 17 None (Alone 0x05) false
  unfolding writing writes_opening
  stream_05 e = rw (p, e) refl

  stream_0d : o.opening ≡ 17 → writing (shape.Unit f) o g ≡ writes o 18 None (Alone 0x0D) false
  unfolding writing writes_opening
  stream_0d e = rw (p, e) refl

  stream_data : o.opening ≡ 18 → writing (shape.Unit f) o g ≡ writes_unit f o g g.offer
  unfolding writing writes_data
  stream_data e = rw (p, e) refl

  no_pair_yet : o.opening < 17 → i.pair ≡ pair_after o.opening → eqb i.pair 2 ≡ false
  no_pair_yet l e =
      let z : i.pair ≡ 0 = e ∙ rw (lt-ltb o.opening 17 l) refl in
      rw z refl

  shown_05 : shown_next (Alone 0x05) h ≡ h
  unfolding moving
  shown_05 = refl

  shown_0d : shown_next (Alone 0x0D) h ≡ h
  unfolding moving
  shown_0d = refl

  -- the unit of all ones is one of the form's
  ones_fit : (f : Form) → fits f (units_of f - 1) ≡ true
  unfolding fits
  ones_fit Six = refl
  ones_fit SevenV1 = refl
  ones_fit SevenV2 = refl
  ones_fit Eight = refl

  module _ (allowed : (u : ℕ) → g.offer ≡ Some u → fits f u ≡ true) (m : Units f o i h []) where
    stream_offer : (x : Option ℕ) → g.offer ≡ x → o.opening ≡ 18 → ArrivesOne (writes_unit f o g x).sent heard
        → Kept (Units f) at_once h [] (writes_unit f o g x) (reading (shape.Unit f) i heard) g.offer
    stream_offer (Some u) e z a =
        units_one f o i h g heard m u 2 true (reads_unit i heard f u p (m.pair ∙ rw z refl) (allowed u e) a) (rw z refl) (rw e refl)
    stream_offer None e z a =
        subst (λ w. Kept (Units f) at_once h [] w (reading (shape.Unit f) i heard) g.offer) (sym filled)
        (units_one f o i h g heard m (units_of f - 1) 2 false
        (reads_unit i heard f (units_of f - 1) p (m.pair ∙ rw z refl) (ones_fit f) (subst (λ w. ArrivesOne w.sent heard) filled a)) (rw z refl) refl)
      where
        filled : writes_unit f o g None ≡ writes o o.opening None (Unit f (units_of f - 1)) false
        filled = rw p refl

    stream_step : ArrivesOne (writing (shape.Unit f) o g).sent heard → Kept (Units f) at_once h [] (writing (shape.Unit f) o g) (reading (shape.Unit f) i heard) g.offer
    stream_step a = go (dec_lt o.opening 16) (dec_lt o.opening 17) (dec_lt o.opening 18)
      where
        most : o.opening ≤ 18
        most = rw opening_is at m.opening

        go : Dec (o.opening < 16) → Dec (o.opening < 17) → Dec (o.opening < 18) → Kept (Units f) at_once h [] (writing (shape.Unit f) o g) (reading (shape.Unit f) i heard) g.offer
        go (yes l) y z =
            kept_as heard (stream_sd l) a
            (units_sd f o i h g heard m (o.opening + 1) Free g.leads (no_pair_yet (omega arith) m.pair) (rw (lt-ltb (o.opening + 1) 17 (omega arith)) refl) (rw opening_is (omega arith)))
        go (no l) (yes y) z =
            let e : o.opening ≡ 16 = omega arith in
            kept_as heard (stream_05 e) a (λ b. units_pair f o i h g heard m 0x05 1 17 (reads_05 i heard f p (no_pair_yet y m.pair) b) shown_05 refl (rw opening_is (omega arith)))
        go (no l) (no y) (yes z) =
            let e : o.opening ≡ 17 = omega arith in
            kept_as heard (stream_0d e) a (λ b. units_pair f o i h g heard m 0x0D 2 18 (reads_0d i heard f p (m.pair ∙ rw e refl) b) shown_0d refl (rw opening_is (omega arith)))
        go (no l) (no y) (no z) =
            let e : o.opening ≡ 18 = omega (arith, most) in
            kept_as heard (stream_data e) a (stream_offer g.offer refl e)

-- in each of these forms
pub unit_step : (f : Form) (o : Outbound) (i : Inbound) (h : Shown) (g : Drive) (heard : ℕ) → ((u : ℕ) → g.offer ≡ Some u → fits f u ≡ true) → Units f o i h []
    → ArrivesOne (writing (shape.Unit f) o g).sent heard → Kept (Units f) at_once h [] (writing (shape.Unit f) o g) (reading (shape.Unit f) i heard) g.offer
unit_step Six o i h g heard allowed m a = six_step o i h g heard allowed m a
unit_step SevenV1 o i h g heard allowed m a = stream_step SevenV1 refl o i h g heard allowed m a
unit_step SevenV2 o i h g heard allowed m a = stream_step SevenV2 refl o i h g heard allowed m a
unit_step Eight o i h g heard allowed m a = stream_step Eight refl o i h g heard allowed m a
