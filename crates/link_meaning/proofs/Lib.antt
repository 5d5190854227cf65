pub mod Good
pub mod Kept
pub mod Pool
pub mod Pieces
pub mod Meaning
pub mod Runs
pub mod Effects
