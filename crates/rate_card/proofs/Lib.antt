pub mod Sizes
pub mod Scans
pub mod Accepted
pub mod Summed
pub mod Rates
pub mod Split
pub mod Reordered
pub mod Laws
mod Examples
