pub mod Acks
pub mod Chains
pub mod Sound
