mod Filled
pub mod Whole
pub mod Figures
pub mod OneReply
