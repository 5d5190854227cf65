-- The definitions of this crate, bottom up.
pub mod Choice
pub mod Bits
pub mod Numbers
pub mod Lists
pub mod Window
pub mod Promises
