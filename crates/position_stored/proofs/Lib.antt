pub mod Laws
pub mod Sequences
pub mod Words
pub mod Turns
pub mod Checks
pub mod Places
pub mod Covering
pub mod Uncovering
pub mod Again
mod Examples
