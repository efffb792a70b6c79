pub mod Kinds
pub mod Borrowed
