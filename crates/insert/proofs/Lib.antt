pub mod Reading
pub mod Cleared
pub mod Raised
pub mod Moves
pub mod Windows
pub mod Tails
pub mod Holding
pub mod Placed
pub mod Ordered
pub mod Accepted
pub mod Either
pub mod Laws
pub mod Called
pub mod Sequences
mod Examples
