pub mod Answers
pub mod Shapes
