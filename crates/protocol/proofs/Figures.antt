-- The figures: rows of slots and states, with document 01's words beside them, each computed. Rows says how a row is written.
--
-- Exchanging: answering, originating, versions, collecting, the clock. Opening: an open end. LeadsAhead: what goes first in it. Refusing: 12 and 13, each range at its
-- edge and one past it. Answering: the answers in numbers. Joining: the joined pair. Starting: ends
-- that don't start together.
pub mod Rows
pub mod Exchanging
pub mod Opening
pub mod LeadsAhead
pub mod Refusing
pub mod Answering
pub mod Joining
pub mod Starting
