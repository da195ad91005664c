pub mod OneReply
