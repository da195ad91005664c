pub mod Text
pub mod Numerals
pub mod Ascii
pub mod Output
