pub mod Input
pub mod Line
pub mod Output
pub mod SaysTrue
