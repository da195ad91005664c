-- What the promises of this crate cite.
pub mod Reading
pub mod Telling
pub mod Arguments
