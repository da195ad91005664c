mod Writing
pub mod Joined
pub mod Lengths
pub mod Filling
pub mod Figures
pub mod OneReply
