-- The sending half of an open end stays in its range. Assumes nothing.
use Rattle.std.specs.Prelude.{Option, Some, None}
use mathlib.Core.Path.{◌≡◌, refl, subst}
use mathlib.Core.Bool.{Bool, true, false, not, ◌&&◌, ◌||◌}
use Prim.Native.Nat.{ℕ, ◌+◌, ◌*◌, ◌/◌, ◌^◌, ◌<◌, ◌≤◌}
use native.Mathlib.Omega.{arith}
use lib.Dec.{ltb, leb}
use borrow.Author.Tests.{lt-ltb, le-leb, ltb-true, leb-true, ltb-false}
use Rattle.ground.proofs.Test.{by_test, both_left, both_right}
use Rattle.channel.specs.declared.unit.Form.{Form}
use Rattle.channel.specs.Forms.{word_fits}
use Rattle.channel.specs.declared.byte.Leads.{Leads}
use Rattle.protocol.specs.Opened.{has_unit, is_word, pair_form, has_pair, opening_sd, opening_bytes, fresh_line, Writing, writes_sd, writes_opening, writes_given, writes_word, writes_unit, writes_offer, changed, writes_claim, held, writes_due, writes_data, writing}
use Rattle.protocol.specs.Ranges.{due_in, none_due, claim_in, outbound_in}
use Rattle.protocol.specs.declared.Shape.{Shape}
use Rattle.protocol.specs.declared.Shape.TheVariants as shape
use Rattle.protocol.specs.declared.Claim.{Claim}
use Rattle.protocol.specs.declared.Claim.TheVariants.{Free, Second, Owed}
use Rattle.protocol.specs.declared.Outbound.{Outbound}
use Rattle.protocol.specs.declared.Drive.{Drive}
use Rattle.protocol.proofs.Kept.Cases.{both, or_right}

-- no nibble is due
due_empty : (s : Shape) (opening : ℕ) → due_in s opening None ≡ true
due_empty (shape.Word w) opening = refl
due_empty (shape.Unit f) opening = refl

-- the parts of the sending half's range
pub record OutboundIn (s : Shape) (o : Outbound) : Type 0 where
  pub opening : o.opening ≤ opening_bytes s
  pub due : due_in s o.opening o.due ≡ true
  pub claim : claim_in s o.opening o.due o.claim ≡ true
  pub breaks : (is_word s || not (o.last.bk || o.before.bk)) ≡ true

abbrev Kept : Shape → Writing → Type 0
Kept s w = OutboundIn s w.outbound

-- of the last two Sd, only in form 0 may BK be 1: the next one moves up
moved_up : (s : Shape) (flag bk1 bk2 : Bool) → (is_word s || not (bk1 || bk2)) ≡ true
    → (is_word s || not ((is_word s && flag) || bk1)) ≡ true
moved_up (shape.Word w) flag bk1 bk2 e = refl
moved_up (shape.Unit f) flag true bk2 e = e
moved_up (shape.Unit f) flag false bk2 e = refl

-- a claim stays in its range where no DH is due
abbrev may_claim : Shape → ℕ → Option ℕ → Bool
may_claim s opening due = not (has_pair s) && leb opening_sd opening && none_due due

claim_stays : (s : Shape) (n : ℕ) (due : Option ℕ) (c : Claim) → claim_in s n due c ≡ true → claim_in s n None c ≡ true
claim_stays s n due Free e = refl
claim_stays s n due (Second leads) e = both (both_left (not (has_pair s) && leb opening_sd n) (none_due due) e) refl
claim_stays s n due Owed e = both (both_left (not (has_pair s) && leb opening_sd n) (none_due due) e) refl

module _ (s : Shape) (o : Outbound) (g : Drive) (i : OutboundIn s o) where
  sd_kept : (opening : ℕ) (c : Claim) (leads : Leads) → opening ≤ opening_bytes s → claim_in s opening None c ≡ true
      → Kept s (writes_sd s o opening c leads g)
  sd_kept opening c leads l e =
      record {
        opening = l;
        due = due_empty s opening;
        claim = e;
        breaks = moved_up s g.flag o.last.bk o.before.bk i.breaks;
      }

  -- who has a claim keeps it
  given_kept : Kept s (writes_given s o g)
  given_kept = sd_kept o.opening o.claim g.leads i.opening (claim_stays s o.opening o.due o.claim i.claim)

  opening_kept : o.opening < opening_bytes s → Kept s (writes_opening s o g)
  unfolding writes_opening
  opening_kept l =
      by_test (Kept s) (ltb o.opening opening_sd) (λ t. sd_kept (o.opening + 1) Free g.leads (omega arith) refl)
      (λ t. record { opening = omega arith; due = due_empty s (o.opening + 1); claim = refl; breaks = i.breaks })

-- an offered unit is one of the shape's
abbrev pub Fits : Shape → Option ℕ → Type 0
Fits s None = Unit {0}
Fits s (Some u) = has_unit s u ≡ true

-- form 0: the high nibble of a word of w bits is due
word_kept : (w : ℕ) (o : Outbound) (g : Drive) → OutboundIn (shape.Word w) o → opening_sd ≤ o.opening → (x : Option ℕ) → Fits (shape.Word w) x
    → Kept (shape.Word w) (writes_word w o g x)
unfolding has_unit word_fits
word_kept w o g i past None fits = given_kept (shape.Word w) o g i
word_kept w o g i past (Some u) fits =
    record {
      opening = i.opening;
      due = both (le-leb opening_sd o.opening past) (lt-ltb (16 * (u / 16)) (2 ^ w) (omega (arith, ltb-true u (2 ^ w) fits)));
      claim = refl;
      breaks = i.breaks;
    }

unit_kept : (f : Form) (o : Outbound) (g : Drive) → OutboundIn (shape.Unit f) o → (x : Option ℕ) → Kept (shape.Unit f) (writes_unit f o g x)
unit_kept f o g i (Some u) = record { opening = i.opening; due = refl; claim = refl; breaks = i.breaks }
unit_kept f o g i None =
    by_test (Kept (shape.Unit f)) (pair_form f) (λ t. record { opening = i.opening; due = refl; claim = refl; breaks = i.breaks })
    (λ t. given_kept (shape.Unit f) o g i)

-- forms 0 and 6: whoever has a claim
module _ (s : Shape) (o : Outbound) (g : Drive) (i : OutboundIn s o) (past : opening_sd ≤ o.opening) (fits : Fits s g.offer) where
  offer_kept : (t : Shape) → s ≡ t → Kept t (writes_offer t o g g.offer)
  offer_kept (shape.Word w) e =
      word_kept w o g (subst (λ t. OutboundIn t o) e i) past g.offer (subst (λ t. Fits t g.offer) e fits)
  offer_kept (shape.Unit f) e = unit_kept f o g (subst (λ t. OutboundIn t o) e i) g.offer

  may_claim_lem : has_pair s ≡ false → may_claim s o.opening None ≡ true
  may_claim_lem none = rw (none, le-leb opening_sd o.opening past) refl

  claim_kept : has_pair s ≡ false → (c : Claim) → Kept s (writes_claim s o g c)
  claim_kept none (Second leads) = sd_kept s o g i o.opening Owed leads i.opening (may_claim_lem none)
  claim_kept none Owed = offer_kept s refl
  claim_kept none Free =
      by_test (Kept s) (changed g.leads o) (λ t. sd_kept s o g i o.opening (Second g.leads) g.leads i.opening (may_claim_lem none))
      (λ t. offer_kept s refl)

due_kept : (w : ℕ) (o : Outbound) (g : Drive) → OutboundIn (shape.Word w) o → opening_sd ≤ o.opening → (d : Option ℕ) → Fits (shape.Word w) g.offer
    → Kept (shape.Word w) (writes_due w o g d)
due_kept w o g i past (Some high) fits = record { opening = i.opening; due = refl; claim = refl; breaks = i.breaks }
due_kept w o g i past None fits =
    by_test (Kept (shape.Word w)) (held g.flag o.last.bk o.before.bk) (λ t. given_kept (shape.Word w) o g i)
    (λ t. claim_kept (shape.Word w) o g i past fits refl o.claim)

data_kept : (s : Shape) (o : Outbound) (g : Drive) → OutboundIn s o → opening_bytes s ≤ o.opening → Fits s g.offer
    → Kept s (writes_data s o g)
unfolding writes_data
data_kept (shape.Word w) o g i past fits = due_kept w o g i past o.due fits
data_kept (shape.Unit f) o g i past fits =
    by_test (Kept (shape.Unit f)) (pair_form f) (λ t. unit_kept f o g i g.offer)
    (λ t. claim_kept (shape.Unit f) o g i (rw t at past) fits t o.claim)

pub next_kept : (s : Shape) (o : Outbound) (g : Drive) → OutboundIn s o → Fits s g.offer → Kept s (writing s o g)
unfolding writing
next_kept s o g i fits =
    by_test (Kept s) (ltb o.opening (opening_bytes s)) (λ t. opening_kept s o g i (ltb-true o.opening (opening_bytes s) t))
    (λ t. data_kept s o g i (ltb-false o.opening (opening_bytes s) t) fits)

pub parts : (s : Shape) (o : Outbound) → outbound_in s o ≡ true → OutboundIn s o
unfolding outbound_in
parts s o e =
    let opening = leb o.opening (opening_bytes s) in
    let due = due_in s o.opening o.due in
    let claim = claim_in s o.opening o.due o.claim in
    let breaks = is_word s || not (o.last.bk || o.before.bk) in
    let three = both_left (opening && due && claim) breaks e in
    let two = both_left (opening && due) claim three in
    record {
      opening = leb-true o.opening (opening_bytes s) (both_left opening due two);
      due = both_right opening due two;
      claim = both_right (opening && due) claim three;
      breaks = both_right (opening && due && claim) breaks e;
    }

whole : (s : Shape) (o : Outbound) → OutboundIn s o → outbound_in s o ≡ true
unfolding outbound_in
whole s o i = both (both (both (le-leb o.opening (opening_bytes s) i.opening) i.due) i.claim) i.breaks

pub writing_kept : (s : Shape) (o : Outbound) (g : Drive) → outbound_in s o ≡ true → Fits s g.offer
    → outbound_in s (writing s o g).outbound ≡ true
writing_kept s o g e fits = whole s (writing s o g).outbound (next_kept s o g (parts s o e) fits)

-- at the opening, and after the first byte of an end that a received byte opened: no offer is looked at
fresh_opens : (s : Shape) → fresh_line.outbound.opening < opening_bytes s
unfolding fresh_line
fresh_opens s = by_test (λ n. 0 < n) (has_pair s) (λ t. omega arith) (λ t. omega arith)

fresh_in : (s : Shape) → OutboundIn s fresh_line.outbound
unfolding fresh_line
fresh_in s = record { opening = omega (arith, fresh_opens s); due = due_empty s 0; claim = refl; breaks = or_right (is_word s) refl }

pub fresh_outbound : (s : Shape) → outbound_in s fresh_line.outbound ≡ true
fresh_outbound s = whole s fresh_line.outbound (fresh_in s)

pub first_outbound : (s : Shape) (g : Drive) → outbound_in s (writing s fresh_line.outbound g).outbound ≡ true
unfolding writing
first_outbound s g =
    let o = fresh_line.outbound in
    rw (lt-ltb o.opening (opening_bytes s) (fresh_opens s))
    (whole s (writes_opening s o g).outbound (opening_kept s o g (fresh_in s) (fresh_opens s)))
