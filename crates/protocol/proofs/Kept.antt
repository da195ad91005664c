-- What a state keeps: every state that a start or a slot yields is in the ranges behind refusal 13 (`call_kept` in StateKept).
--
-- An end in the exchange, slot by slot: what has come (HearingKept; AwaitedMoves says how what is awaited moves on, GroupMoves what a byte
-- may do to a group), what is sent (SendingKept), the version (VersionSettled, VersionKept) and the entry (Matching) make up the slot
-- (TurnKept). An open end: its sending half (WritingKept) and its receiving half (ReadingKept). StateKept puts them together for one slot and for a call. BookStays:
-- the book is never changed.
-- Cases and BookFacts are what they all use: tests put together and taken apart, and what an accepted book has.
pub mod Cases
pub mod BookFacts
pub mod GroupMoves
pub mod HearingKept
pub mod AwaitedMoves
pub mod SendingKept
pub mod VersionSettled
pub mod Matching
pub mod VersionKept
pub mod TurnKept
pub mod WritingKept
pub mod ReadingKept
pub mod StateKept
pub mod BookStays
