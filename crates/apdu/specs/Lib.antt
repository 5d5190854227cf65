-- The definitions of this crate, bottom up.
pub mod Control
pub mod Reading
pub mod Writing
pub mod Plain
