pub mod Model
pub mod Laws
pub mod Lists
pub mod Reordered
pub mod Kept
pub mod Sweeps
pub mod Pieces
pub mod Ordered
pub mod Algebra
pub mod Members
pub mod Unique
pub mod Fewest
pub mod Covers
pub mod Uncovers
mod Examples
