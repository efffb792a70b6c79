pub mod Laws
pub mod Written
pub mod Lanes
mod Examples
