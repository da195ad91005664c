pub mod Steps
pub mod Says
pub mod SaysAll
pub mod OneReply
