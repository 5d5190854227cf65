-- The definitions of this crate, bottom up.
pub mod Frames
pub mod Making
pub mod Events
pub mod Answering
