pub mod Objects
pub mod Octets
