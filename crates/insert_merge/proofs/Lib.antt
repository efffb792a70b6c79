pub mod Reading
pub mod Merged
pub mod Staying
pub mod Reach
pub mod Converted
mod Examples
