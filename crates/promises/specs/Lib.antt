-- The promises to the customer, and the cases and counts that they speak of.
pub mod Asdus
pub mod Walks
pub mod Frames
pub mod Cases
pub mod Streams
pub mod Settled
pub mod Acknowledged
pub mod Demand3
pub mod Demand3Runs
pub mod Demand1
