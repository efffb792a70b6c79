pub mod Laws
pub mod Covered
