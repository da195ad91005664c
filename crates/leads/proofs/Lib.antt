-- Leads ahead of data holds.
--
-- DataShown: what carries data is no Sd. Tracked: so the last two Sd that the state keeps are those that went, slot by slot, and LastTwo: in
-- every call. OneSlot: what goes in a slot, one case a rule; Running: in a call, from a slot on. UnitsGo: so chattering leads can't stop the
-- data. Waiting: steady leads come nearer with each slot, LeadsOut: in a call. Settled: leads that stand at the far end stand on, FarEnd: in the
-- joined pair. LeadsAhead: all of it. Exact: the numbers in it are exact.
pub mod DataShown
pub mod Tracked
pub mod LastTwo
pub mod OneSlot
pub mod Running
pub mod UnitsGo
pub mod Waiting
pub mod LeadsOut
pub mod Settled
pub mod FarEnd
pub mod LeadsAhead
pub mod Exact
