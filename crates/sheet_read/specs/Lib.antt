pub mod Reading
pub mod Scan
pub mod Passes
