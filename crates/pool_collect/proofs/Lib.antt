pub mod Distinct
pub mod Moved
pub mod Kept
pub mod Indexed
pub mod Gathers
pub mod Passes
pub mod Packs
pub mod Rewritten
pub mod Faults
pub mod Both
pub mod Laws
mod Examples
