-- Forms 6, 7 and 8: what an open end makes of an Sd, of the pair and of a unit when it comes. Assumes nothing.
use Rattle.std.specs.Prelude.{Some, None}
use mathlib.Core.Path.{◌≡◌, refl, ap, ◌∙◌}
use mathlib.Core.Bool.{Bool, true, false, cond}
use Prim.Native.Nat.{ℕ, ◌/◌, ◌%◌}
use native.Mathlib.Omega.{arith}
use borrow.Author.Tests.{ltb-true}
use lib.Dec.{eqb}
use Rattle.std.specs.Prelude.{Some, None}
use Rattle.ground.specs.Digits.{val}
use Rattle.channel.specs.declared.byte.Leads.{Leads}
use Rattle.channel.specs.declared.unit.Form.{Form}
use Rattle.channel.specs.declared.unit.Form.TheVariants.{Six, SevenV1, SevenV2, Eight}
use Rattle.channel.specs.Bytes.{laid, sd_byte}
use Rattle.channel.specs.Kinds.{kind_of}
use Rattle.channel.specs.Forms.{units_of, fits, unit_byte, unit_in, is_data, decoded, ArrivesAs}
use Rattle.channel.proofs.RoundTrip.{round_trip}
use Rattle.channel.proofs.ReadBack.{b8_ignored}
use Rattle.protocol.specs.Opened.{pair_form, reads, reads_sd, reads_pair, reads_six, reads_stream, reading}
use Rattle.protocol.proofs.Computing.{moving}
use Rattle.protocol.specs.declared.Shape.TheVariants as shape
use Rattle.protocol.specs.declared.Inbound.{Inbound}
use Rattle.protocol.proofs.Delivery.MirrorKept.{heard_sd}

-- the unit that comes is the one that went
taken_out : (x : Bool) (v u : ℕ) → cond x (Some v) None ≡ Some u → (x ≡ true) × (v ≡ u)
taken_out true v u e = (refl, cc)
taken_out false v u e = let z : ◌≡◌ {A = ℕ} 0 1 = cc in absurd (omega arith)

unit_comes : (f : Form) (u heard : ℕ) → fits f u ≡ true → ArrivesAs f (unit_byte f u) heard → (is_data f heard ≡ true) × (unit_in f heard ≡ u)
unfolding decoded fits
unit_comes f u heard e a = taken_out (is_data f heard) (unit_in f heard) u (round_trip f u heard (ltb-true u (units_of f) e) a)

-- B7 of an Sd is on
sd_marked : (l : Leads) (b : Bool) → sd_byte l b / 2 % 2 ≡ 1
unfolding sd_byte laid val
sd_marked l b = omega arith

sd_no_data : (l : Leads) (b : Bool) (heard : ℕ) → heard / 2 ≡ sd_byte l b / 2 → is_data Six heard ≡ false
sd_no_data l b heard e = let z : heard / 2 % 2 ≡ 1 = ap (λ n. n % 2) e ∙ sd_marked l b in rw z refl

-- of forms 7 and 8
stream_is : (f : Form) (i : Inbound) (heard : ℕ) → pair_form f ≡ true → reading (shape.Unit f) i heard ≡ reads_stream f i heard
unfolding reading
stream_is Six i heard e = cc
stream_is SevenV1 i heard e = refl
stream_is SevenV2 i heard e = refl
stream_is Eight i heard e = refl

paired : (i : Inbound) → i.pair ≡ 1 → reads_pair i (kind_of 0x0D) ≡ reads i None 2 None
unfolding moving
paired i e = rw e refl

module _ (i : Inbound) (heard : ℕ) where
  seeks : (f : Form) → pair_form f ≡ true → eqb i.pair 2 ≡ false → reading (shape.Unit f) i heard ≡ reads_pair i (kind_of heard)
  unfolding reads_stream
  seeks f p e = stream_is f i heard p ∙ rw e refl

  -- an Sd comes
  pub reads_sd_lem : (f : Form) (l : Leads) → eqb i.pair 2 ≡ false → heard / 2 ≡ sd_byte l false / 2 → reading (shape.Unit f) i heard ≡ reads_sd i l false
  unfolding reading reads_six
  reads_sd_lem Six l e a = rw (sd_no_data l false heard a) (rw (heard_sd l false heard a) refl)
  reads_sd_lem SevenV1 l e a = seeks SevenV1 refl e ∙ rw (heard_sd l false heard a) refl
  reads_sd_lem SevenV2 l e a = seeks SevenV2 refl e ∙ rw (heard_sd l false heard a) refl
  reads_sd_lem Eight l e a = seeks Eight refl e ∙ rw (heard_sd l false heard a) refl

  -- the pair comes
  pub reads_05 : (f : Form) → pair_form f ≡ true → eqb i.pair 2 ≡ false → heard / 2 ≡ 0x05 / 2 → reading (shape.Unit f) i heard ≡ reads i None 1 None
  unfolding moving
  reads_05 f p e a = seeks f p e ∙ ap (reads_pair i) (b8_ignored heard 0x05 a)

  pub reads_0d : (f : Form) → pair_form f ≡ true → i.pair ≡ 1 → heard / 2 ≡ 0x0D / 2 → reading (shape.Unit f) i heard ≡ reads i None 2 None
  reads_0d f p e a = seeks f p (rw e refl) ∙ ap (reads_pair i) (b8_ignored heard 0x0D a) ∙ paired i e

  -- a unit comes
  pub reads_six_lem : (u : ℕ) → fits Six u ≡ true → ArrivesAs Six (unit_byte Six u) heard → reading (shape.Unit Six) i heard ≡ reads i None 0 (Some u)
  unfolding reading reads_six
  reads_six_lem u e a = let c = unit_comes Six u heard e a in rw (c.0, c.1) refl

  pub reads_unit : (f : Form) (u : ℕ) → pair_form f ≡ true → i.pair ≡ 2 → fits f u ≡ true → ArrivesAs f (unit_byte f u) heard
      → reading (shape.Unit f) i heard ≡ reads i None 2 (Some u)
  unfolding reads_stream
  reads_unit f u p e q a = let c = unit_comes f u heard q a in stream_is f i heard p ∙ rw (e, c.1) refl
