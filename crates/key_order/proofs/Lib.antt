pub mod Impossible
pub mod Bools
pub mod Numbers
pub mod Line
pub mod Laws
pub mod Ranks
pub mod Words
pub mod Turns
mod Examples
