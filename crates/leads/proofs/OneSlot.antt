-- What goes in a slot after the first 16 Sd in form 0 or 6, one case a rule. Assumes nothing.
use Rattle.std.specs.Prelude.{Option, Some, None}
use mathlib.Core.Path.{◌≡◌, refl, sym, ◌∙◌}
use mathlib.Core.Bool.{Bool, true, false, not, ◌&&◌}
use mathlib.Core.Logic.{◌⊎◌, inl, inr}
use Prim.Native.Nat.{ℕ}
use native.Mathlib.Omega.{arith}
use lib.Dec.{leb}
use borrow.Author.Tests.{le-ltb, leb-true, not-true}
use Rattle.ground.proofs.Test.{by_test, both_left, both_right}
use Rattle.channel.specs.declared.byte.Leads.{Leads}
use Rattle.channel.specs.declared.unit.Form.{Form}
use Rattle.protocol.specs.Sent.{Sent}
use Rattle.protocol.specs.Opened.{Writing, is_word, pair_form, has_pair, opening_sd, writes, writes_sd, writes_given, writes_word, writes_unit, writes_offer, changed, writes_claim, held, writes_due, writes_data, writing}
use Rattle.protocol.specs.Ranges.{due_in, none_due, claim_in}
use Rattle.protocol.specs.declared.Shape.{Shape}
use Rattle.protocol.specs.declared.Shape.TheVariants as shape
use Rattle.protocol.specs.declared.Claim.{Claim}
use Rattle.protocol.specs.declared.Claim.TheVariants.{Free, Second, Owed}
use Rattle.protocol.specs.declared.Outbound.{Outbound}
use Rattle.protocol.specs.declared.Drive.{Drive}
use Rattle.protocol.proofs.Kept.WritingKept.{OutboundIn}
use Rattle.leads.specs.LeadsAhead.{past_sd}
use Rattle.leads.proofs.DataShown.{NoSd, shown_dl, shown_dh}

-- a test does not both pass and fail
pub clash : {P : Type 0} {b : Bool} → b ≡ true → b ≡ false → P
clash p q = let z : true ≡ false = sym p ∙ q in let w : ◌≡◌ {A = ℕ} 0 1 = cc in absurd (omega arith)

-- neither a DH due nor the break rule comes first
pub record Clear (s : Shape) (o : Outbound) (g : Drive) : Type 0 where
  pub none : o.due ≡ None
  pub rule : (is_word s && held g.flag o.last.bk o.before.bk) ≡ false

-- leads do not claim the line: a unit is owed it, or they are as in the last two Sd
abbrev pub Gives : Outbound → Drive → Type 0
Gives o g = (o.claim ≡ Owed) ⊎ ((o.claim ≡ Free) × (changed g.leads o ≡ false))

pub data Goes (s : Shape) (o : Outbound) (g : Drive) : Writing → Type 0 where
  -- 1
  high : none_due o.due ≡ false → o.claim ≡ Free → (sent : Sent) → NoSd sent → Goes s o g (writes o o.opening None sent false)
  -- 2
  broken : is_word s ≡ true → o.due ≡ None → held g.flag o.last.bk o.before.bk ≡ true → Goes s o g (writes_given s o g)
  -- 3
  second : (leads : Leads) → Clear s o g → o.claim ≡ Second leads → Goes s o g (writes_sd s o o.opening Owed leads g)
  -- 4
  first : Clear s o g → o.claim ≡ Free → changed g.leads o ≡ true → Goes s o g (writes_sd s o o.opening (Second g.leads) g.leads g)
  -- 5
  takes : Clear s o g → Gives o g → (u : ℕ) → g.offer ≡ Some u → (due : Option ℕ) → none_due due ≡ not (is_word s) → (sent : Sent)
      → NoSd sent → Goes s o g (writes o o.opening due sent true)
  -- 6
  idles : Clear s o g → Gives o g → g.offer ≡ None → Goes s o g (writes_given s o g)

-- in form 6 no DH is ever due
unit_due : (s : Shape) (opening : ℕ) (d : Option ℕ) → due_in s opening d ≡ true → is_word s ≡ false → d ≡ None
unit_due s opening None e u = refl
unit_due (shape.Word w) opening (Some h) e u = cc
unit_due (shape.Unit f) opening (Some h) e u = cc

-- where a DH is due, nobody has a claim
due_free : (s : Shape) (opening : ℕ) (due : Option ℕ) (c : Claim) → claim_in s opening due c ≡ true → none_due due ≡ false → c ≡ Free
due_free s opening due Free e n = refl
due_free s opening due (Second leads) e n = clash (both_right (not (has_pair s) && leb opening_sd opening) (none_due due) e) n
due_free s opening due Owed e n = clash (both_right (not (has_pair s) && leb opening_sd opening) (none_due due) e) n

due_claim : {s : Shape} {o : Outbound} → OutboundIn s o → none_due o.due ≡ false → o.claim ≡ Free
due_claim {s} {o} i n = due_free s o.opening o.due o.claim i.claim n

module _ (o : Outbound) (g : Drive) where
  word_goes : (w : ℕ) → Clear (shape.Word w) o g → Gives o g → (x : Option ℕ) → g.offer ≡ x → Goes (shape.Word w) o g (writes_word w o g x)
  word_goes w f y None e = idles f y e
  word_goes w f y (Some u) e = takes f y u e _ refl _ (shown_dl u)

  unit_goes : (f : Form) → pair_form f ≡ false → Clear (shape.Unit f) o g → Gives o g → (x : Option ℕ) → g.offer ≡ x
      → Goes (shape.Unit f) o g (writes_unit f o g x)
  unit_goes f p q y None e = rw p (idles q y e)
  unit_goes f p q y (Some u) e = takes q y u e _ refl _ (λ h. refl)

  offer_goes : (s : Shape) → has_pair s ≡ false → Clear s o g → Gives o g → Goes s o g (writes_offer s o g g.offer)
  offer_goes (shape.Word w) p f y = word_goes w f y g.offer refl
  offer_goes (shape.Unit f) p q y = unit_goes f p q y g.offer refl

  claim_goes : (s : Shape) → has_pair s ≡ false → Clear s o g → (c : Claim) → o.claim ≡ c → Goes s o g (writes_claim s o g c)
  claim_goes s p f (Second leads) e = second leads f e
  claim_goes s p f Owed e = offer_goes s p f (inl e)
  claim_goes s p f Free e =
      by_test (Goes s o g) (changed g.leads o) (λ t. first f e t) (λ t. offer_goes s p f (inr (e, t)))

  due_goes : (w : ℕ) → OutboundIn (shape.Word w) o → (d : Option ℕ) → o.due ≡ d → Goes (shape.Word w) o g (writes_due w o g d)
  due_goes w i (Some h) e = let n : none_due o.due ≡ false = rw e refl in high n (due_claim i n) _ (shown_dh h)
  due_goes w i None e =
      by_test (Goes (shape.Word w) o g) (held g.flag o.last.bk o.before.bk) (λ t. broken refl e t)
      (λ t. claim_goes (shape.Word w) refl (record { none = e; rule = t }) o.claim refl)

  data_goes : (s : Shape) → has_pair s ≡ false → OutboundIn s o → Goes s o g (writes_data s o g)
  unfolding writes_data
  data_goes (shape.Word w) p i = due_goes w i o.due refl
  data_goes (shape.Unit f) p i =
      rw p (claim_goes (shape.Unit f) p (record { none = unit_due (shape.Unit f) o.opening o.due i.due refl; rule = refl }) o.claim refl)

  pub goes_by : (s : Shape) → past_sd s o ≡ true → OutboundIn s o → Goes s o g (writing s o g)
  unfolding writing
  goes_by s p i =
      let none = not-true (has_pair s) (both_left (not (has_pair s)) (leb opening_sd o.opening) p) in
      let past = leb-true opening_sd o.opening (both_right (not (has_pair s)) (leb opening_sd o.opening) p) in
      rw (none, le-ltb o.opening opening_sd past) (data_goes s none i)
