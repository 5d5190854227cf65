-- The definitions of this crate, bottom up.
pub mod Limits
pub mod Acknowledging
pub mod Opening
