pub mod TypeNumbers
pub mod Elements
pub mod Objects
