pub mod Covered
pub mod Ranges
pub mod Inner
pub mod Codes
