pub mod Written
pub mod Room
pub mod Laws
mod Examples
