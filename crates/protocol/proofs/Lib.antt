-- The laws of one end and of the joined pair, by subject. Each subject has a first file, named here, that says how its parts fit.
pub mod Computing
pub mod Kept
pub mod Calls
pub mod Chain
pub mod Delivery
pub mod Figures
pub mod OneReply
