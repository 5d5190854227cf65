pub mod Sights
pub mod Moves
pub mod Steps
