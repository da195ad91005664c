-- `endpoint::slot::slot` meets its contract. Assumes nothing.
use mathlib.Core.Path.{sym, ◌∙◌}
use Rattle.protocol.specs.Slot.{slot_of}
use Rattle.endpoint.proofs.Says.{replies}
use Rattle.endpoint.proofs.Steps.{slot_passes}
use Rattle.endpoint.proofs.slot.slot.Goals as goal

pub returns-then-offer_allowed : goal.returns-then-offer_allowed
returns-then-offer_allowed c = let both = replies _ _ _
    (slot_passes _ _ _ (sym c.well_formed-2.ensures ∙ c.if-well_formed.true)
    (sym c.offer_allowed.ensures ∙ c.if-offer_allowed.true) c.step.ensures c.passed.ensures) in record { value = both.0; says = both.1 }

pub returns-then-well_formed : goal.returns-then-well_formed
unfolding slot_of
returns-then-well_formed c = let both = replies _ _ _ (simp (c.refused.ensures, sym c.offer_allowed.ensures ∙ c.if-offer_allowed.false, sym c.well_formed-2.ensures ∙ c.if-well_formed.true)) in record { value = both.0; says = both.1 }

pub returns : goal.returns
unfolding slot_of
returns c = let both = replies _ _ _ (simp (c.refused-2.ensures, sym c.well_formed-2.ensures ∙ c.if-well_formed.false)) in record { value = both.0; says = both.1 }
