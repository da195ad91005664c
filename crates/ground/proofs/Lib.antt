pub mod OneReply
pub mod Test
pub mod Each
pub mod EachBool
pub mod Lists
pub mod PastEnd
pub mod Figures
