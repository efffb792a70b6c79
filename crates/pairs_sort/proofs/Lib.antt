pub mod Laws
pub mod Flat
pub mod Shuffles
pub mod Heaping
pub mod Turns
pub mod Joined
