-- `endpoint::slot::Calling::step` meets its contract. Assumes nothing.
use Rattle.endpoint.proofs.Steps.{step_stays, step_opens_hearing, step_opens_sending, step_refuses}
use Rattle.endpoint.proofs.slot.Calling.step.Goals as goal

pub returns-in-Stays : goal.returns-in-Stays
returns-in-Stays c = step_stays _ _ _ _ _ c.kind.ensures.value c.turn-t.ensures c.in-Stays.is c.clocked.ensures c.quiet.ensures

pub returns-in-OpensHearing : goal.returns-in-OpensHearing
returns-in-OpensHearing c = step_opens_hearing _ _ _ _ _ c.kind.ensures.value c.turn-t.ensures c.in-OpensHearing.is c.opens_hearing.ensures

pub returns-in-OpensSending : goal.returns-in-OpensSending
returns-in-OpensSending c = step_opens_sending _ _ _ _ _ c.kind.ensures.value c.turn-t.ensures c.in-OpensSending.is c.fresh_line.ensures c.opens.ensures c.quiet-in-OpensSending.ensures

pub returns-in-Refuses : goal.returns-in-Refuses
returns-in-Refuses c = step_refuses _ _ _ _ _ c.kind.ensures.value c.turn-t.ensures c.in-Refuses.is c.refuses.ensures c.quiet-in-Refuses.ensures
