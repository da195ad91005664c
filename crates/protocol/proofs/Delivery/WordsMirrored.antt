-- Form 0: the receiving half mirrors the sending half of the other end, word by word. Assumes nothing.
use Rattle.std.specs.Prelude.{Option, Some, None}
use mathlib.Core.Path.{◌≡◌, refl, sym, ◌∙◌, subst}
use mathlib.Core.Bool.{Bool, true, false}
use mathlib.Core.List.{List, [], ◌∷◌}
use Prim.Native.Nat.{ℕ, ◌+◌, ◌*◌, ◌/◌, ◌%◌, ◌^◌, ◌≤◌, ◌<◌}
use native.Mathlib.Nat.{mod-eq_of_lt, lt_of_lt_of_le}
use native.Mathlib.Omega.{arith}
use lib.Pow.{pow_mono}
use borrow.Author.Tests.{ltb-true, ltb-false}
use lib.Dec.{ltb}
use Rattle.ground.proofs.Test.{by_test}
use Rattle.channel.specs.declared.byte.Leads.{Leads}
use Rattle.channel.specs.Bytes.{sd_byte, dl_byte, dh_byte}
use Rattle.channel.specs.Forms.{word_fits, word_of}
use Rattle.channel.proofs.ReadBack.{b8_ignored, dl_read, dh_read}
use Rattle.protocol.specs.Sent.{Alone}
use Rattle.protocol.specs.Opened.{agreed, agreed_signals, reads, reading, reads_word, writes, writes_sd, writes_word, changed, writes_claim, held, writes_due, writing, writes_opening, writes_data}
use Rattle.protocol.specs.Carried.{Shown}
use Rattle.protocol.specs.declared.Shape.TheVariants as shape
use Rattle.protocol.specs.declared.Claim.{Claim}
use Rattle.protocol.specs.declared.Claim.TheVariants.{Free, Second, Owed}
use Rattle.protocol.specs.declared.Outbound.{Outbound}
use Rattle.protocol.specs.declared.Inbound.{Inbound}
use Rattle.protocol.specs.declared.Drive.{Drive}
use Rattle.protocol.proofs.Delivery.MirrorKept.{ArrivesOne, Signalled, heard_sd, signalled_sd, signalled_on, Kept, late, kept_as}

-- the unit whose DH is due, if one is: its DL has come, and BK stands off
pub data Due (w : ℕ) (o : Outbound) (i : Inbound) : List ℕ → Type 0 where
  none : o.due ≡ None → i.half ≡ None → Due w o i []
  some : (u : ℕ) → u < 2 ^ w → u < 256 → 16 ≤ o.opening → o.due ≡ Some (u / 16) → i.half ≡ Some (u % 16) → i.standing.bk ≡ false → Due w o i (u ∷ [])

pub record Words (w : ℕ) (o : Outbound) (i : Inbound) (h : Shown) (pending : List ℕ) : Type 0 where
  pub signals : Signalled h i
  -- the last Sd that came is the last that went, and where the last two had BK 0 it stands off
  pub last : i.last.bk ≡ o.last.bk
  pub off : o.last.bk ≡ false → o.before.bk ≡ false → i.standing.bk ≡ false
  pub unit : Due w o i pending

agreed_off : (last now standing : Bool) → last ≡ false → now ≡ false → agreed last now standing ≡ false
agreed_off last now standing p q = rw (p, q)

module _ (w : ℕ) (o : Outbound) (i : Inbound) (h : Shown) (g : Drive) (heard : ℕ) where
  -- an Sd goes, with nothing due
  word_sd : (opening : ℕ) (c : Claim) (leads : Leads) → Words w o i h [] → o.due ≡ None → i.half ≡ None
      → heard / 2 ≡ sd_byte leads g.flag / 2
      → Kept (Words w) late h [] (writes_sd (shape.Word w) o opening c leads g) (reading (shape.Word w) i heard) g.offer
  unfolding reading reads_word agreed_signals
  word_sd opening c leads m e f a =
      rw (heard_sd leads g.flag heard a)
      (record {
        now = [];
        mirror =
            record {
              signals = signalled_sd m.signals leads g.flag;
              last = refl;
              off = λ p q. agreed_off i.last.bk g.flag i.standing.bk (m.last ∙ q) p;
              unit = none refl search;
            };
        units = refl;
        delivers = refl;
      })

  -- a DL goes: a unit is taken
  read_dl : (u : ℕ) → u < 256 → i.standing.bk ≡ false → heard / 2 ≡ dl_byte u / 2 → reading (shape.Word w) i heard ≡ reads i (Some (u % 16)) 0 None
  unfolding reading reads_word
  read_dl u k off a = rw (b8_ignored heard (dl_byte u) a ∙ dl_read u k) (rw off refl)

  word_dl : (u : ℕ) → u < 2 ^ w → u < 256 → g.offer ≡ Some u → 16 ≤ o.opening → o.last.bk ≡ false → o.before.bk ≡ false → Words w o i h [] → heard / 2 ≡ dl_byte u / 2
      → Kept (Words w) late h [] (writes o o.opening (Some (u / 16)) (Alone (dl_byte u)) true) (reading (shape.Word w) i heard) g.offer
  word_dl u l k e past p q m a =
      rw (read_dl u k (m.off p q) a)
      (record {
        now = u ∷ [];
        mirror =
            rw (dl_read u k)
            (record {
              signals = signalled_on m.signals (Some (u % 16)) 0 None;
              last = m.last;
              off = m.off;
              unit = some u l k past refl refl (m.off p q);
            });
        units = rw e;
        delivers = refl;
      })

  -- the DH that was due goes
  read_dh : (u : ℕ) → u < 2 ^ w → u < 256 → i.half ≡ Some (u % 16) → i.standing.bk ≡ false → heard / 2 ≡ dh_byte (16 * (u / 16)) / 2
      → reading (shape.Word w) i heard ≡ reads i None 0 (Some u)
  unfolding reading reads_word word_of
  read_dh u l k e off a =
      let z : 16 * (u / 16) / 16 ≡ u / 16 = omega arith in
      let small : 16 * (u / 16) < 256 = omega arith in
      let whole : u % 16 % 16 + u / 16 % 16 * 16 ≡ u = omega arith in
      let kind = b8_ignored heard (dh_byte (16 * (u / 16))) a ∙ dh_read (16 * (u / 16)) small in
      rw kind (rw (off, z, e, whole, mod-eq_of_lt l) refl)

  word_dh : (u : ℕ) → u < 2 ^ w → u < 256 → i.half ≡ Some (u % 16) → i.standing.bk ≡ false → Words w o i h (u ∷ []) → heard / 2 ≡ dh_byte (16 * (u / 16)) / 2
      → Kept (Words w) late h (u ∷ []) (writes o o.opening None (Alone (dh_byte (16 * (u / 16)))) false) (reading (shape.Word w) i heard) g.offer
  word_dh u l k e off m a =
      let small : 16 * (u / 16) < 256 = omega arith in
      rw (read_dh u l k e off a)
      (record {
        now = [];
        mirror =
            rw (dh_read (16 * (u / 16)) small)
            (record {
              signals = signalled_on m.signals None 0 (Some u);
              last = m.last;
              off = m.off;
              unit = none refl refl;
            });
        units = refl;
        delivers = refl;
      })

-- where a unit may be taken, the last two Sd sent had BK 0: so BK stands off at the other end, which does not ignore the unit
not_held : (flag bk1 bk2 : Bool) → held flag bk1 bk2 ≡ false → (bk1 ≡ false) × (bk2 ≡ false)
not_held true bk1 bk2 e = (cc, cc)
not_held false true bk2 e = (cc, cc)
not_held false false true e = (refl, cc)
not_held false false false e = (refl, refl)

-- one slot of form 0
module _ (w : ℕ) (small : w ≤ 8) (i : Inbound) (h : Shown) (heard : ℕ) where
  below : (u : ℕ) → word_fits w u ≡ true → (u < 2 ^ w) × (u < 256)
  unfolding word_fits
  below u e =
      let l : u < 2 ^ w = ltb-true u (2 ^ w) e in
      (l, lt_of_lt_of_le l (pow_mono {i = w} {j = 8} small))

  -- no DH is due, and the last two Sd had BK 0: an offered unit goes, or an Sd
  module _ (o : Outbound) (g : Drive) (p : o.last.bk ≡ false) (q : o.before.bk ≡ false) (past : 16 ≤ o.opening)
      (allowed : (u : ℕ) → g.offer ≡ Some u → word_fits w u ≡ true) (r : o.due ≡ None) (t : i.half ≡ None) (m : Words w o i h []) where
    word_offer : (f : Option ℕ) → g.offer ≡ f → ArrivesOne (writes_word w o g f).sent heard
        → Kept (Words w) late h [] (writes_word w o g f) (reading (shape.Word w) i heard) g.offer
    word_offer None e a = word_sd w o i h g heard o.opening o.claim g.leads m r t a
    word_offer (Some u) e a =
        let b = below u (allowed u e) in word_dl w o i h g heard u b.0 b.1 e past p q m a

    word_claim : (c : Claim) → ArrivesOne (writes_claim (shape.Word w) o g c).sent heard
        → Kept (Words w) late h [] (writes_claim (shape.Word w) o g c) (reading (shape.Word w) i heard) g.offer
    word_claim (Second leads) a = word_sd w o i h g heard o.opening Owed leads m r t a
    word_claim Owed a = word_offer g.offer refl a
    word_claim Free a =
        by_test
        (λ x. ArrivesOne x.sent heard → Kept (Words w) late h [] x (reading (shape.Word w) i heard) g.offer)
        (changed g.leads o) (λ z. word_sd w o i h g heard o.opening (Second g.leads) g.leads m r t) (λ z. word_offer g.offer refl) a

  word_due : (o : Outbound) (g : Drive) (pending : List ℕ) → 16 ≤ o.opening → ((u : ℕ) → g.offer ≡ Some u → word_fits w u ≡ true)
      → Words w o i h pending → Due w o i pending
      → ArrivesOne (writes_due w o g o.due).sent heard → Kept (Words w) late h pending (writes_due w o g o.due) (reading (shape.Word w) i heard) g.offer
  word_due o g pending past allowed m (some u l k op e f off) a =
      subst (λ x. Kept (Words w) late h (u ∷ []) (writes_due w o g x) (reading (shape.Word w) i heard) g.offer) (sym e)
      (word_dh w o i h g heard u l k f off m (subst (λ x. ArrivesOne (writes_due w o g x).sent heard) e a))
  word_due o g pending past allowed m (none e f) a =
      subst (λ x. Kept (Words w) late h [] (writes_due w o g x) (reading (shape.Word w) i heard) g.offer) (sym e)
      (by_test
      (λ x. ArrivesOne x.sent heard → Kept (Words w) late h [] x (reading (shape.Word w) i heard) g.offer)
      (held g.flag o.last.bk o.before.bk) (λ t. word_sd w o i h g heard o.opening o.claim g.leads m e f)
      (λ t. let off = not_held g.flag o.last.bk o.before.bk t in word_claim o g off.0 off.1 past allowed e f m o.claim)
      (subst (λ x. ArrivesOne (writes_due w o g x).sent heard) e a))

  opening_word : (o : Outbound) (g : Drive) → ltb o.opening 16 ≡ true → writing (shape.Word w) o g ≡ writes_sd (shape.Word w) o (o.opening + 1) Free g.leads g
  unfolding writing writes_opening
  opening_word o g e = rw e refl

  data_word : (o : Outbound) (g : Drive) → ltb o.opening 16 ≡ false → writing (shape.Word w) o g ≡ writes_due w o g o.due
  unfolding writing writes_data
  data_word o g e = rw e refl

  word_opening : (o : Outbound) (g : Drive) (pending : List ℕ) → o.opening < 16 → Words w o i h pending → Due w o i pending
      → ArrivesOne (writes_sd (shape.Word w) o (o.opening + 1) Free g.leads g).sent heard
      → Kept (Words w) late h pending (writes_sd (shape.Word w) o (o.opening + 1) Free g.leads g) (reading (shape.Word w) i heard) g.offer
  word_opening o g pending l m (none e f) a = word_sd w o i h g heard (o.opening + 1) Free g.leads m e f a
  word_opening o g pending l m (some u lu k op e f off) a = absurd (omega arith)

  pub word_step : (o : Outbound) (g : Drive) (pending : List ℕ) → ((u : ℕ) → g.offer ≡ Some u → word_fits w u ≡ true) → Words w o i h pending
      → ArrivesOne (writing (shape.Word w) o g).sent heard → Kept (Words w) late h pending (writing (shape.Word w) o g) (reading (shape.Word w) i heard) g.offer
  word_step o g pending allowed m a = go (ltb o.opening 16) refl
    where
      go : (x : Bool) → ltb o.opening 16 ≡ x → Kept (Words w) late h pending (writing (shape.Word w) o g) (reading (shape.Word w) i heard) g.offer
      go true e = kept_as heard (opening_word o g e) a (word_opening o g pending (ltb-true o.opening 16 e) m m.unit)
      go false e = kept_as heard (data_word o g e) a (word_due o g pending (ltb-false o.opening 16 e) allowed m m.unit)
