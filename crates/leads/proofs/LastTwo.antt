-- The state keeps the last two Sd that went in the call. Assumes nothing.
use mathlib.Core.Path.{◌≡◌, refl, sym, ap, ◌∙◌, subst}
use mathlib.Core.Bool.{Bool, true, false}
use Prim.Native.Nat.{ℕ, zero, suc, ◌+◌, ◌≤◌}
use native.Mathlib.Omega.{arith}
use lib.Dec.{ltb}
use Rattle.ground.proofs.Test.{either_way}
use Rattle.book.specs.declared.Book.{Book}
use Rattle.book.specs.Kept.{book_ok}
use Rattle.channel.specs.Kinds.{kind_of}
use Rattle.protocol.specs.Sent.{Silence}
use Rattle.protocol.specs.Exchange.{Turn, turn, entry_of}
use Rattle.protocol.specs.Opened.{Writing, shape_of, fresh_line}
use Rattle.protocol.specs.Ranges.{well_formed}
use Rattle.protocol.specs.Slot.{Step, exchange_of, started, clocked, step_by, exchange_step, open_step, step, step_at, step_of, offer_allowed, slot_step, slot_of}
use Rattle.protocol.specs.Call.{end_at, sent_at}
use Rattle.protocol.specs.Carried.{Shown, shown_next, shown_after}
use Rattle.protocol.specs.declared.Exchange.{Exchange}
use Rattle.protocol.specs.declared.Fate.{Fate}
use Rattle.protocol.specs.declared.Fate.TheVariants.{Stays, OpensHearing, OpensSending, Refuses}
use Rattle.protocol.specs.declared.Outbound.{Outbound}
use Rattle.protocol.specs.declared.Phase.{Phase}
use Rattle.protocol.specs.declared.Phase.TheVariants.{Exchanging, Open, Refused}
use Rattle.protocol.specs.declared.Endpoint.{Endpoint}
use Rattle.protocol.specs.declared.Drive.{Drive}
use Rattle.protocol.specs.declared.SlotAnswer.{SlotAnswer}
use Rattle.protocol.proofs.Kept.StateKept.{call_kept}
use Rattle.protocol.proofs.Calls.SlotPasses.{slot_passes, slot_refused, step_passes, step_refused}
use Rattle.leads.specs.LeadsAhead.{LastTwoKept}
use Rattle.leads.proofs.Tracked.{Tracked, sd, other, tracked}

-- the last two, of the Sd sent and as they are kept
pub record Same (h : Shown) (o : Outbound) : Type 0 where
  pub last : 1 ≤ o.opening → h.last ≡ o.last
  pub before : 2 ≤ o.opening → h.before ≡ o.before

pub next_same : {o : Outbound} {h : Shown} {w : Writing} → Tracked o h w → Same h o → Same (shown_next w.sent h) w.outbound
next_same (sd a b c l) k = record { last = λ one. a; before = λ two. b ∙ k.last (omega arith) ∙ sym c }
next_same (other a b c l) k =
    record {
      last = λ one. ap (λ (x : Shown). x.last) a ∙ k.last (omega arith) ∙ sym b;
      before = λ two. ap (λ (x : Shown). x.before) a ∙ k.before (omega arith) ∙ sym c;
    }

pub fresh_same : (h : Shown) → Same h fresh_line.outbound
unfolding fresh_line
fresh_same h = record { last = λ one. absurd (omega arith); before = λ two. absurd (omega arith) }

-- of an open end
abbrev Keeps : Shown → Phase → Type 0
Keeps h (Exchanging slot version a s) = Unit {0}
Keeps h (Open slot version i line) = Same h line.outbound
Keeps h (Refused number slot) = Unit {0}

module _ (h : Shown) where
  clocked_keeps : (b : Book) (slot : ℕ) (x : Exchange) → Keeps h (clocked b slot x).phase
  unfolding clocked
  clocked_keeps b slot x = either_way (λ (e : Endpoint). Keeps h e.phase) (ltb (slot + 1) b.limit) tt tt

by_keeps : (h : Shown) (b : Book) (slot : ℕ) (t : Turn) (g : Drive) (f : Fate) → Keeps (shown_next (step_by b slot t g f).sent h) (step_by b slot t g f).state.phase
by_keeps h b slot t g Stays = clocked_keeps _ b slot t.exchange
by_keeps h b slot t g (OpensHearing i) =
    next_same (tracked fresh_line.outbound g h (shape_of (entry_of b i) t.exchange.version)) (fresh_same h)
by_keeps h b slot t g (OpensSending i) = fresh_same _
by_keeps h b slot t g (Refuses n) = tt

step_keeps : (h : Shown) (e : Endpoint) (heard : ℕ) (g : Drive) (p : Phase) → e.phase ≡ p → Keeps h p
    → Keeps (shown_next (step_at e heard g p).sent h) (step_at e heard g p).state.phase
unfolding step_at exchange_step open_step
step_keeps h e heard g (Exchanging slot version a s) q k =
    let t = turn e.book (exchange_of e version a s) (kind_of heard) in by_keeps h e.book slot t g t.fate
step_keeps h e heard g (Open slot version i line) q k =
    next_same (tracked line.outbound g h (shape_of (entry_of e.book i) version)) k
step_keeps h e heard g (Refused number slot) q k = subst (Keeps _) (sym q) tt

abbrev After : Shown → Step → SlotAnswer → Type 0
After h s a = Keeps (shown_next s.sent h) a.state.phase

-- a slot that 12 refuses sends nothing and leaves the state
slot_keeps : (h : Shown) (e : Endpoint) (heard : ℕ) (g : Drive) → well_formed e ≡ true → Keeps h e.phase
    → After h (slot_step e heard g) (slot_of e heard g)
slot_keeps h e heard g w k = go (offer_allowed e g e.phase) refl
  where
    go : (x : Bool) → offer_allowed e g e.phase ≡ x → After h (slot_step e heard g) (slot_of e heard g)
    go true x =
        subst (λ s. After h s (slot_of e heard g)) (sym (step_passes e heard g w x))
        (subst (After h (step_of e heard g)) (sym (slot_passes e heard g w x)) (step_keeps h e heard g e.phase refl k))
    go false x =
        subst (λ s. After h s (slot_of e heard g)) (sym (step_refused e heard g w x))
        (subst (After h (step e Silence)) (sym (slot_refused e heard g w x)) k)

module _ (b : Book) (ok : book_ok b ≡ true) (heard : ℕ → ℕ) (given : ℕ → Drive) where
  call_keeps : (t : ℕ) → Keeps (shown_after (sent_at (started b) heard given) t) (end_at (started b) heard given t).phase
  unfolding end_at shown_after started
  call_keeps zero = tt
  call_keeps (suc t) =
      slot_keeps (shown_after (sent_at (started b) heard given) t) (end_at (started b) heard given t) (heard t) (given t) (call_kept b ok heard given t)
      (call_keeps t)

  pub last_two_kept : LastTwoKept (started b) heard given
  last_two_kept t slot version i line q =
      let k : Same (shown_after (sent_at (started b) heard given) t) line.outbound
      = subst (Keeps (shown_after (sent_at (started b) heard given) t)) q (call_keeps t) in
      record { last = k.last; before = k.before }
