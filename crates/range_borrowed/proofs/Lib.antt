pub mod Bounds
pub mod Directions
pub mod Laws
