pub mod Laws
pub mod Stored
pub mod Rows
pub mod Plain
pub mod Room
pub mod Round
