-- The chain of the exchange: both ends of a joined pair open alike or refuse alike, each in a slot that is known (`no_version_late`,
-- `both_open_late`, `no_profile_late` in PairConcludes). docs/PAIR.md shows it as a picture.
--
-- The machine. Segments: runs of any machine, stretch by stretch. Core: the exchange as such a machine, without drive and clock. Link: what
-- one end says and the other hears d slots later. Timed and FromBytes: until its limit an end of a call is that machine, and what
-- the allowed damage leaves of its bytes is such a link. OwnSlots: an end that starts in a later slot, by the common slots.
--
-- The steps, in the order of time, from the slot h in which a waiting originator first hears Sgvi. Hail: single slots of the two
-- ends while they hail each other. Meeting: to the slot in which the originator has the answerer's identifier. Settling: to the slot in
-- which the answerer has the originator's; no version, 21. Concluding: the parameters, both ways; open, or 22. Sender and
-- Collects are what the last two use: an originator that sends whatever it hears, and five parameters heard by an end that rests.
--
-- The pair. Starting: two ends that start in any two slots meet; Together: two that start together, in slot d. BothConclude: each end, by its books, in its own slots. AtOnce: two ends that
-- start together. PairConcludes: the statements, where one end starts e slots after the other and where both start together.
-- Roles: a book in each role, and what it sends as its identifier. Profile: the answerer's entry that has the originator's parameters.
pub mod Segments
pub mod Core
pub mod Link
pub mod Timed
pub mod OwnSlots
pub mod FromBytes
pub mod Roles
pub mod Profile
pub mod Hail
pub mod Meeting
pub mod Sender
pub mod Collects
pub mod Settling
pub mod Concluding
pub mod Starting
pub mod BothConclude
pub mod AtOnce
pub mod Together
pub mod PairConcludes
