pub mod Order
pub mod Refusals
pub mod Passes
