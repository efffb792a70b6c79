pub mod Items
pub mod Boundaries
