pub mod Bytes
pub mod Kinds
pub mod Forms
pub mod Versions
pub mod Vote
pub mod Answers
