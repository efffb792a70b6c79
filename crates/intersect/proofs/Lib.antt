pub mod Laws
pub mod Ranked
pub mod Intervals
pub mod Held
pub mod Seen
