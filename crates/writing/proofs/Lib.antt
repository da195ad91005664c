pub mod DhOfNibble
pub mod OneReply
