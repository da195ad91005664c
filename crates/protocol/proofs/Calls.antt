-- A call of one end, whatever it hears and is given.
--
-- SlotPasses: a slot of a state in its ranges passes, and what it then is. From it: what has concluded stays so (ConcludedStays); the clock
-- is the number of slots since the start, so a reported slot is the true one (Clock, SlotReported); an end open on form 8 is on
-- version 2 (FormEight); by its limit an end is open or refused (EndsByLimit); a call is determined by its book and what it is given (CallDetermined). Each vote rests on the last six bytes
-- received and on no byte before them (EachVote, from ExchangeHears and GroupInHand).
pub mod SlotPasses
pub mod ConcludedStays
pub mod Clock
pub mod SlotReported
pub mod FormEight
pub mod EndsByLimit
pub mod CallDetermined
pub mod ExchangeHears
pub mod GroupInHand
pub mod EachVote
