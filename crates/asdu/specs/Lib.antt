-- The definitions of this crate, bottom up.
pub mod Header
pub mod Records
pub mod Reading
pub mod Puts
pub mod Writing
pub mod Plain
