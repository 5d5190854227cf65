pub mod Starts
pub mod Placed
pub mod Walk
pub mod Checked
pub mod Passed
pub mod Lengths
pub mod Kept
