pub mod EightBits
pub mod OneReply
pub mod OtherKinds
