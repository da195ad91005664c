pub mod Book
pub mod Written
pub mod Refusals
pub mod Offending
pub mod Reading
pub mod Kept
