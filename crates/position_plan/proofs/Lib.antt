pub mod Laws
pub mod Good
pub mod Greedy
pub mod Turns
pub mod Search
pub mod Back
pub mod Opening
pub mod Passes
pub mod Room
pub mod Judging
pub mod Known
mod Examples
