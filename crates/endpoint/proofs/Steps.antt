-- One slot of an end in the exchange, by what becomes of the exchange in it; and the book, which a slot keeps. Assumes nothing.
use mathlib.Core.Path.{◌≡◌, sym, ap, ◌∙◌}
use mathlib.Core.Bool.{true}
use Prim.Native.Nat.{ℕ}
use Rattle.book.specs.declared.Book.{Book}
use Rattle.channel.specs.declared.kind.Kind.{Kind}
use Rattle.channel.specs.Kinds.{kind_of}
use Rattle.protocol.specs.Exchange.{turn}
use Rattle.protocol.specs.Opened.{fresh_line}
use Rattle.protocol.specs.Ranges.{well_formed}
use Rattle.protocol.specs.Slot.{clocked, opens_hearing, step_by, exchange_step, step_of, offer_allowed, passes, slot_of}
use Rattle.protocol.specs.declared.Drive.{Drive}
use Rattle.protocol.specs.declared.Endpoint.{Endpoint}
use Rattle.protocol.specs.declared.Exchange.{Exchange}
use Rattle.protocol.specs.declared.Line.{Line}
use Rattle.protocol.specs.declared.Fate.{Fate}
use Rattle.protocol.specs.declared.Fate.TheVariants.{Stays, OpensHearing, OpensSending, Refuses}
use Rattle.protocol.specs.declared.Phase.TheVariants.{Open, Refused}
use Rattle.protocol.specs.declared.SlotAnswer.{SlotAnswer}
use Rattle.exchange.specs.declared.turn.TurnMade.{TurnMade}
use Rattle.protocol.proofs.Kept.BookStays.{step_book}
use Rattle.endpoint.specs.declared.slot.Rest.{Rest}
use Rattle.endpoint.specs.declared.slot.StepMade.{StepMade}
use Rattle.exchange.specs.Made.{made}
use Rattle.endpoint.specs.StepMade.{rest_of, concluded_rest, step_made, quiet_step, passed_by}

module _ (b : Book) (slot : ℕ) (x : Exchange) (heard : ℕ) (g : Drive) {k : Kind} {t : TurnMade} (e : k ≡ kind_of heard) (a : t ≡ made (turn b x k)) where
  same : t ≡ made (turn b x (kind_of heard))
  same = a ∙ ap (λ q. made (turn b x q)) e

  by_fate : {f : Fate} → t.fate ≡ f → step_made (step_by b slot (turn b x (kind_of heard)) g f) ≡ step_made (exchange_step b slot x heard g)
  unfolding exchange_step
  by_fate v = ap (λ f. step_made (step_by b slot (turn b x (kind_of heard)) g f)) (sym v ∙ ap (λ z. z.fate) same)

  pub step_stays : {s : Rest} {r : StepMade} → t.fate ≡ Stays → s ≡ rest_of (clocked b slot t.exchange) → r ≡ quiet_step s t.sent → r ≡ step_made (exchange_step b slot x heard g)
  step_stays v c q =
      q ∙ ap (λ z. quiet_step z t.sent) c ∙ ap (λ z. quiet_step (rest_of (clocked b slot z.exchange)) z.sent) same ∙ by_fate v

  abbrev opened : ℕ → TurnMade → Line → Rest
  opened i z line = concluded_rest z.exchange (Open slot z.exchange.version i line)

  module _ {i : ℕ} where
    pub step_opens_hearing : {r : StepMade} → t.fate ≡ OpensHearing i → r ≡ step_made (opens_hearing b slot t.exchange i g) → r ≡ step_made (exchange_step b slot x heard g)
    step_opens_hearing v q = q ∙ ap (λ z. step_made (opens_hearing b slot z.exchange i g)) same ∙ by_fate v

    pub step_opens_sending : {s : Rest} {line : Line} {r : StepMade} → t.fate ≡ OpensSending i → line ≡ fresh_line → s ≡ opened i t line → r ≡ quiet_step s t.sent
        → r ≡ step_made (exchange_step b slot x heard g)
    step_opens_sending v l c q =
        q ∙ ap (λ z. quiet_step z t.sent) (c ∙ ap (opened i t) l)
        ∙ ap (λ z. quiet_step (opened i z fresh_line) z.sent) same ∙ by_fate v

    pub step_refuses : {s : Rest} {r : StepMade} → t.fate ≡ Refuses i → s ≡ concluded_rest t.exchange (Refused i slot) → r ≡ quiet_step s t.sent
        → r ≡ step_made (exchange_step b slot x heard g)
    step_refuses v c q =
        q ∙ ap (λ z. quiet_step z t.sent) c ∙ ap (λ z. quiet_step (concluded_rest z.exchange (Refused i slot)) z.sent) same ∙ by_fate v

-- the end that comes out of a slot has the book that went in
book_put_back : (e : Endpoint) (heard : ℕ) (g : Drive) → passed_by e.book (step_made (step_of e heard g)) ≡ passes (step_of e heard g)
book_put_back e heard g = ap (λ b. passed_by b (step_made (step_of e heard g))) (sym (step_book e heard g e.phase))

pub slot_passes : (e : Endpoint) (heard : ℕ) (g : Drive) {s : StepMade} {r : SlotAnswer} → well_formed e ≡ true → offer_allowed e g e.phase ≡ true
    → s ≡ step_made (step_of e heard g) → r ≡ passed_by e.book s → r ≡ slot_of e heard g
unfolding slot_of
slot_passes e heard g w o q p = rw (w, o) (p ∙ ap (passed_by e.book) q ∙ book_put_back e heard g)
