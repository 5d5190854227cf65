pub mod Numbered
pub mod Wires
