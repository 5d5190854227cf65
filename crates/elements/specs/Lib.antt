-- The definitions of this crate, bottom up.
pub mod Refusals
pub mod Quality
pub mod Points
pub mod Steps
pub mod Causes
pub mod Promises
