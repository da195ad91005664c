mod Slots
pub mod SaysTrue
pub mod LineLength
mod Telling
mod Saying
pub mod Room
pub mod OneReply
pub mod Samples
