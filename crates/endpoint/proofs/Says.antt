-- What a slot replies, in numbers. Assumes nothing.
use mathlib.Core.Path.{◌≡◌, refl, ap, ◌∙◌}
use mathlib.Core.Bool.{Bool, true, false, cond}
use mathlib.Core.List.{[], ◌∷◌}
use Prim.Native.Nat.{ℕ}
use Rattle.protocol.specs.Answers.{says_outcome, says_reply, stands_in, step_says, slot_says}
use Rattle.protocol.specs.Ranges.{well_formed}
use Rattle.protocol.specs.Slot.{Step, step_of, offer_allowed, outcome_at, passes, refuses, slot_of}
use Rattle.protocol.specs.declared.Drive.{Drive}
use Rattle.protocol.specs.declared.Endpoint.{Endpoint}
use Rattle.protocol.specs.declared.Phase.{Phase}
use Rattle.protocol.specs.declared.Phase.TheVariants.{Exchanging, Open, Refused}
use Rattle.protocol.specs.declared.SlotAnswer.{SlotAnswer}
use Rattle.protocol.specs.declared.SlotRefusal.TheVariants.{UnitOutOfRange, OutsideRanges}

stands_at_lem : (e : Endpoint) (p : Phase) → says_outcome (outcome_at e p) ≡ stands_in e p
unfolding outcome_at stands_in
stands_at_lem e (Exchanging slot version a s) = refl
stands_at_lem e (Open slot version i line) = refl
stands_at_lem e (Refused number slot) = refl

-- a slot that passes
passes_says : (s : Step) → says_reply (passes s).reply ≡ step_says s
passes_says s = rw (stands_at_lem s.state s.state.phase)

by_tests : (e : Endpoint) (s : Step) (well fits : Bool)
    → says_reply (cond well (cond fits (passes s) (refuses e UnitOutOfRange)) (refuses e OutsideRanges)).reply
    ≡ cond well (cond fits (step_says s) (12 ∷ [])) (13 ∷ [])
by_tests e s true true = passes_says s
by_tests e s true false = refl
by_tests e s false fits = refl

pub replies : (e : Endpoint) (heard : ℕ) (g : Drive) {r : SlotAnswer} → r ≡ slot_of e heard g
    → (r ≡ slot_of e heard g) × (says_reply r.reply ≡ slot_says e heard g)
unfolding slot_of slot_says
replies e heard g p =
    (p, ap (λ (r : SlotAnswer). says_reply r.reply) p ∙ by_tests e (step_of e heard g) (well_formed e) (offer_allowed e g e.phase))
