-- The link by totals and lists, and what joins it to the code's.
pub mod Kept
pub mod Abstract
pub mod Meaning
pub mod Runs
pub mod Effects
