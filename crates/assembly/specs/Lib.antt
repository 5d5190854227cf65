-- The definitions of this crate, bottom up.
pub mod Start
pub mod Picking
pub mod Topping
pub mod Stepping
pub mod Streams
