-- The definitions of this crate, bottom up.
pub mod Kinds
pub mod Elements
pub mod Objects
pub mod Promises
