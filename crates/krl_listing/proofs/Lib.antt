pub mod Laws
pub mod Lines
mod Examples
