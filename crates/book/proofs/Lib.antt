mod Header
mod Entries
mod Loading
mod NothingWrong
mod Versions
pub mod Reply
mod Lookup
pub mod Params
pub mod Kept
mod Written
pub mod RoundTrip
pub mod OneReply
pub mod Offending
pub mod Longest
pub mod Base
pub mod Samples
