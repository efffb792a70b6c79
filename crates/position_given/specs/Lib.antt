pub mod Given
pub mod Positions
pub mod Answers
pub mod Inner
