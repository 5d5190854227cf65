pub mod Refused
pub mod Signed
pub mod Promises
