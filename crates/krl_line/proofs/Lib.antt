pub mod Laws
mod Examples
