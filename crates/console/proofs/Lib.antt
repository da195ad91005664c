pub mod Reading
pub mod Telling
mod Figures
mod OneReply
