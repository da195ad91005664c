pub mod Running
pub mod Ring
pub mod Rings
pub mod Join
pub mod RunsTrue
pub mod Report
