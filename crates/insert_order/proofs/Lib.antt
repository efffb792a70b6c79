pub mod Chains
pub mod Reading
pub mod Ranked
pub mod Shown
pub mod Seen
pub mod Ordered
pub mod Accepted
mod Examples
