-- Any stored state is answered in any slot, and what is said of a call holds. Assumes nothing.
use mathlib.Core.Path.{◌≡◌, refl, ap}
use mathlib.Core.Bool.{true, false}
use Prim.Native.Nat.{ℕ, suc}
use native.Mathlib.Omega.{arith}
use Rattle.book.specs.declared.Book.{Book}
use Rattle.book.specs.Kept.{book_ok}
use Rattle.channel.specs.Bytes.{byte}
use Rattle.protocol.specs.Sent.{byte_sent}
use Rattle.protocol.specs.Slot.{started, Step, offer_allowed, slot_of, passed_with}
use Rattle.protocol.specs.Call.{end_at, sent_at, delivered_at, taken_at, stands_at}
use Rattle.protocol.specs.declared.Endpoint.{Endpoint}
use Rattle.protocol.specs.declared.Drive.{Drive}
use Rattle.protocol.specs.declared.SlotAnswer.{SlotAnswer}
use Rattle.protocol.proofs.Calls.SlotPasses.{slot_passes, slot_refused, reply_passes, step_refused}
use Rattle.protocol.proofs.Kept.StateKept.{slot_kept, call_kept}
use Rattle.protocol.proofs.Calls.ConcludedStays.{open_stays, refused_stays, refused_idles, refused_ignores}
use Rattle.protocol.proofs.Calls.SlotReported.{opened_in_lem, refused_in_lem}
use Rattle.protocol.proofs.Calls.FormEight.{eight_on_2}
use Rattle.protocol.proofs.Calls.EachVote.{no_other_value}
use Rattle.protocol.proofs.Calls.CallDetermined.{call_determined, sent_determined, delivered_determined, taken_determined}
use Rattle.claims.specs.OneEnd.{AnswersAll, NotPassed, CallHolds}

pub answers_all : (e : Endpoint) (heard : ℕ) (g : Drive) → AnswersAll e heard g
unfolding slot_of
answers_all e heard g =
    record {
      bad_state = λ w. rw w refl;
      bad_offer = slot_refused e heard g;
      thirteen = refl;
      twelve = refl;
      otherwise = slot_passes e heard g;
      kept = slot_kept e heard g;
    }

module _ (b : Book) (ok : book_ok b ≡ true) (heard : ℕ → ℕ) (given : ℕ → Drive) where
  slot_replies : (t : ℕ) → offer_allowed (end_at (started b) heard given t) (given t) (end_at (started b) heard given t).phase ≡ true
      → (slot_of (end_at (started b) heard given t) (heard t) (given t)).reply
      ≡ passed_with (byte (byte_sent (sent_at (started b) heard given t))) (delivered_at (started b) heard given t)
      (taken_at (started b) heard given t) (stands_at (started b) heard given (suc t))
  unfolding end_at
  slot_replies t o = reply_passes (end_at (started b) heard given t) (heard t) (given t) (call_kept b ok heard given t) o

  slot_not_passed : (t : ℕ) → offer_allowed (end_at (started b) heard given t) (given t) (end_at (started b) heard given t).phase ≡ false
      → NotPassed (started b) heard given t
  unfolding end_at
  slot_not_passed t o =
      let e = end_at (started b) heard given t in
      let refused = (answers_all e (heard t) (given t)).bad_offer (call_kept b ok heard given t) o in
      let steps = step_refused e (heard t) (given t) (call_kept b ok heard given t) o in
      record {
        reply = ap (λ (a : SlotAnswer). a.reply) refused;
        number = refl;
        sent = ap (λ (s : Step). s.sent) steps;
        delivered = ap (λ (s : Step). s.delivered) steps;
        taken = ap (λ (s : Step). s.taken) steps;
        after = ap (λ (a : SlotAnswer). a.state) refused;
      }

  pub call_holds : CallHolds b heard given
  call_holds =
      record {
        kept = call_kept b ok heard given;
        replies = slot_replies;
        not_passed = slot_not_passed;
        opened_in = λ t version slot profile signals. opened_in_lem b ok heard given t;
        refused_in = λ t number slot. refused_in_lem b ok heard given t;
        eights = λ t version slot profile signals. eight_on_2 b ok heard given t;
        concluded =
            λ t u later.
            record {
              opened = λ slot version entry line q. open_stays (started b) heard given t u later q;
              refused = λ number slot q. refused_stays (started b) heard given t u later q;
              idles = λ number slot q. refused_idles (started b) heard given t u (call_kept b ok heard given u) later q;
              ignores = λ number slot q. refused_ignores (started b) heard given t u (call_kept b ok heard given u) later q;
            };
        voted = no_other_value b ok heard given;
        determined =
            λ heard' given' t h g.
            record {
              sent = sent_determined (started b) heard heard' given given' t h g;
              delivered = delivered_determined (started b) heard heard' given given' t h g;
              taken = taken_determined (started b) heard heard' given given' t h g;
              after = call_determined (started b) heard heard' given given' (suc t) (λ i l. h i (omega arith)) (λ i l. g i (omega arith));
            };
      }
