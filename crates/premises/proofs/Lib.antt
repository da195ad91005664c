-- The premises of the joined pair are met, for any books that may be joined, any drives and every delay.
--
-- UndamagedCalls: the ends of the undamaged pair hear what the other sent d slots before (DelayLine). WithinDamage: that is allowed damage.
-- OffersAllowed: what may be offered so that 12 refuses nothing. So a pair exists (PairExists), and for every delay there are books
-- that may be joined (PairForEachDelay). LateCalls: the same where one end starts e slots after the other, for every channel whose damage is
-- allowed; with OneCopyWrong every group arrives with a copy wrong.
-- GoesOn: two ends that are joined up to a slot, in whatever way, are the beginning of a joined pair. WholeRuns: whole calls of such pairs, as
-- figures.
pub mod DelayLine
pub mod WithinDamage
pub mod UndamagedCalls
pub mod OneCopyWrong
pub mod OffersAllowed
pub mod LateCalls
pub mod PairExists
pub mod PairForEachDelay
pub mod GoesOn
pub mod WholeRuns
