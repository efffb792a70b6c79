pub mod Program
pub mod Decided
