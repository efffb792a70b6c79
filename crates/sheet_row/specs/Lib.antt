pub mod Fields
pub mod Lanes
