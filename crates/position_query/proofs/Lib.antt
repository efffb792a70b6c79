pub mod Laws
pub mod Ranges
pub mod Clean
pub mod Builds
pub mod Codes
