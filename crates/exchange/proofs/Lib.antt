pub mod MatchedOn
pub mod OneReply
