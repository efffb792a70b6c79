pub mod Kinds
pub mod Rungs
