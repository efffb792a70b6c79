pub mod Laws
pub mod Walks
pub mod Turns
pub mod Steps
