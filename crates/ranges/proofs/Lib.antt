pub mod AllBelow
pub mod HighNibble
pub mod OneReply
