pub mod InNumbers
pub mod OneReply
pub mod OtherKinds
