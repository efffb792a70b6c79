pub mod Insertion
pub mod Answers
pub mod Sequence
pub mod Passes
