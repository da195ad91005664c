-- Leads that stand at the far end stand on while they are given: of the Sd that go after, one at most has others. Assumes nothing.
use mathlib.Core.Path.{◌≡◌, refl, sym, ap, ◌∙◌, subst}
use mathlib.Core.Bool.{Bool, true, false}
use mathlib.Core.Logic.{◌⊎◌, inl, inr}
use Prim.Native.Nat.{ℕ, zero, suc}
use native.Mathlib.Omega.{arith}
use Rattle.channel.specs.declared.byte.Leads.{Leads}
use Rattle.channel.specs.declared.kind.Kind.{Kind}
use Rattle.channel.specs.declared.kind.Kind.TheVariants.{Sgvi, Sgp, Sgr, Dl, Dh, Sd, Other}
use Rattle.channel.specs.Bytes.{sd_byte}
use Rattle.channel.specs.Kinds.{kind_of}
use Rattle.channel.proofs.ReadBack.{sd_read}
use Rattle.protocol.specs.Sent.{Sent, Silence, Alone, Part, Unit}
use Rattle.protocol.specs.Opened.{Writing, agreed, agreed_signals, bk_sent}
use Rattle.protocol.specs.Carried.{Shown, shown_kind, shown_next, shown_after}
use Rattle.protocol.specs.declared.Signals.{Signals}
use Rattle.protocol.specs.declared.Shape.{Shape}
use Rattle.protocol.specs.declared.Claim.{Claim}
use Rattle.protocol.specs.declared.Claim.TheVariants.{Free, Second, Owed}
use Rattle.protocol.specs.declared.Outbound.{Outbound}
use Rattle.protocol.specs.declared.Drive.{Drive}
use Rattle.leads.proofs.OneSlot.{Goes, high, broken, second, first, takes, idles}

-- A lead that two Sd agree on, and one that stands and that one of them has.

agreed_both : (x standing : Bool) → agreed x x standing ≡ x
agreed_both true standing = refl
agreed_both false standing = refl

agreed_last : (x now : Bool) → agreed x now x ≡ x
agreed_last true true = refl
agreed_last true false = refl
agreed_last false true = refl
agreed_last false false = refl

agreed_now : (last x : Bool) → agreed last x x ≡ x
agreed_now true true = refl
agreed_now true false = refl
agreed_now false true = refl
agreed_now false false = refl

-- so for the four leads
each_lead : (l : Leads) {a b c d : Bool} → a ≡ l.s0 → b ≡ l.s1 → c ≡ l.s2 → d ≡ l.s3 → record { s0 = a; s1 = b; s2 = c; s3 = d } ≡ l
each_lead l p q r s = rw (p, q, r, s) refl

module _ (l : Leads) (last now standing : Signals) where
  leads_both : last.leads ≡ l → now.leads ≡ l → (agreed_signals last now standing).leads ≡ l
  unfolding agreed_signals
  leads_both p q =
      rw (p, q)
      (each_lead l (agreed_both l.s0 standing.leads.s0) (agreed_both l.s1 standing.leads.s1) (agreed_both l.s2 standing.leads.s2)
      (agreed_both l.s3 standing.leads.s3))

  leads_last : standing.leads ≡ l → last.leads ≡ l → (agreed_signals last now standing).leads ≡ l
  unfolding agreed_signals
  leads_last p q =
      rw (p, q)
      (each_lead l (agreed_last l.s0 now.leads.s0) (agreed_last l.s1 now.leads.s1) (agreed_last l.s2 now.leads.s2)
      (agreed_last l.s3 now.leads.s3))

  leads_now : standing.leads ≡ l → now.leads ≡ l → (agreed_signals last now standing).leads ≡ l
  unfolding agreed_signals
  leads_now p q =
      rw (p, q)
      (each_lead l (agreed_now last.leads.s0 l.s0) (agreed_now last.leads.s1 l.s1) (agreed_now last.leads.s2 l.s2)
      (agreed_now last.leads.s3 l.s3))

-- Leads that the last two Sd have stand.

abbrev Agree : Shown → Type 0
Agree h = (l : Leads) → h.last.leads ≡ l → h.before.leads ≡ l → h.standing.leads ≡ l

kind_agrees : (k : Kind) (h : Shown) → Agree h → Agree (shown_kind k h)
kind_agrees (Sd s bk) h a = λ l p q. leads_both l h.last _ h.standing q p
kind_agrees Sgvi h a = a
kind_agrees (Sgp k) h a = a
kind_agrees Sgr h a = a
kind_agrees (Dl x) h a = a
kind_agrees (Dh x) h a = a
kind_agrees Other h a = a

next_agrees : (s : Sent) (h : Shown) → Agree h → Agree (shown_next s h)
next_agrees Silence h a = a
next_agrees (Alone b) h a = kind_agrees (kind_of b) h a
next_agrees (Part place value) h a = a
next_agrees (Unit f u) h a = a

pub shown_agrees : (sent : ℕ → Sent) (n : ℕ) (l : Leads) → (shown_after sent n).last.leads ≡ l → (shown_after sent n).before.leads ≡ l
    → (shown_after sent n).standing.leads ≡ l
unfolding shown_after
shown_agrees sent zero l p q = p
shown_agrees sent (suc n) l p q = next_agrees (sent n) (shown_after sent n) (shown_agrees sent n) l p q

-- They stand on.

pub record Settled (l : Leads) (o : Outbound) (h : Shown) : Type 0 where
  pub standing : h.standing.leads ≡ l
  -- a second Sd that is due has them, or the last Sd had
  pub claim : (m : Leads) → o.claim ≡ Second m → (m ≡ l) ⊎ (h.last.leads ≡ l)

shown_sd : (m : Leads) (bk : Bool) (h : Shown) → shown_next (Alone (sd_byte m bk)) h ≡ shown_kind (Sd m bk) h
shown_sd m bk h = ap (λ k. shown_kind k h) (sd_read m bk)

no_second : {P : Type 0} {c : Claim} {m : Leads} → c ≡ Second m → c ≡ Owed → P
no_second p q = let z : Second _ ≡ Owed = sym p ∙ q in let w : ◌≡◌ {A = ℕ} 0 1 = cc in absurd (omega arith)

no_claim : {P : Type 0} {c : Claim} {m : Leads} → c ≡ Second m → c ≡ Free → P
no_claim p q = let z : Second _ ≡ Free = sym p ∙ q in let w : ◌≡◌ {A = ℕ} 0 1 = cc in absurd (omega arith)

module _ (s : Shape) (l : Leads) (o : Outbound) (g : Drive) (h : Shown) (e : g.leads ≡ l) (k : Settled l o h) where
  -- an Sd with the leads given
  given_settled : (p : Outbound) → Settled l p (shown_next (Alone (sd_byte g.leads (bk_sent s g))) h)
  given_settled p =
      subst (Settled l p) (sym (shown_sd g.leads (bk_sent s g) h))
      (record { standing = leads_now l h.last _ h.standing k.standing e; claim = λ m q. inr e })

  -- the second of two, with other leads or the same
  second_settled : (m : Leads) (p : Outbound) → p.claim ≡ Owed → (m ≡ l) ⊎ (h.last.leads ≡ l)
      → Settled l p (shown_next (Alone (sd_byte m (bk_sent s g))) h)
  second_settled m p c x = subst (Settled l p) (sym (shown_sd m (bk_sent s g) h)) (record { standing = go x; claim = λ n q. no_second q c })
    where
      go : (m ≡ l) ⊎ (h.last.leads ≡ l) → (agreed_signals h.last (record { leads = m; bk = bk_sent s g }) h.standing).leads ≡ l
      go (inl y) = leads_now l h.last _ h.standing k.standing y
      go (inr y) = leads_last l h.last _ h.standing k.standing y

  pub settled : {w : Writing} → Goes s o g w → Settled l w.outbound (shown_next w.sent h)
  settled (high d c sent y) = subst (Settled l _) (sym (y h)) (record { standing = k.standing; claim = λ m r. no_claim r refl })
  settled (broken w d x) = given_settled _
  settled (second m f c) = second_settled m _ refl (k.claim m c)
  settled (first f c x) = given_settled _
  settled (takes f y u q due n sent x) = subst (Settled l _) (sym (x h)) (record { standing = k.standing; claim = λ m r. no_claim r refl })
  settled (idles f y q) = given_settled _
