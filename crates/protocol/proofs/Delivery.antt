-- Delivery: what one open end takes, the other delivers once, in order and unchanged, and the signals follow (`both_carry_late` and
-- `dipsticks_late` in PairDelivers; `both_carry` where both ends start together).
--
-- The mirror: the receiving half after slot t + d is a function of the sending half after slot t (Mirror, with the form as a parameter). One
-- slot keeps it: MirrorKept has the signals and the units on their way, WordsMirrored form 0, UnitsRead and UnitsMirrored forms 6, 7 and 8.
-- The calls: OpenRuns is an open end slot by slot; OpenEnds an end that opens, as a sender and as a receiver from then on; Quiet an end in
-- the exchange, which delivers, takes and sends no unit. Stream follows the mirror from the first opening byte on, and Delivers makes of that
-- all units and all signals of a call, and DeliversTogether where both ends start in slot 0. Fills: a unit that goes was taken, or is fill. Carried: the nibble that a DL or a DH carries.
pub mod Carried
pub mod MirrorKept
pub mod WordsMirrored
pub mod UnitsRead
pub mod UnitsMirrored
pub mod Mirror
pub mod OpenRuns
pub mod Stream
pub mod Quiet
pub mod Delivers
pub mod DeliversTogether
pub mod OpenEnds
pub mod Fills
pub mod PairDelivers
