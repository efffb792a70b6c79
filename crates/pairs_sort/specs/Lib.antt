pub mod Pairs
pub mod Heaps
