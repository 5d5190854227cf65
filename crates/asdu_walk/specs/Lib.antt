-- The definitions of this crate, bottom up.
pub mod Places
pub mod Walks
