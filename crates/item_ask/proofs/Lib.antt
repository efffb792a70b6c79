pub mod Between
pub mod Directions
pub mod Laws
