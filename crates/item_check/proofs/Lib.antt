pub mod Tests
pub mod Faults
pub mod Scans
pub mod Accepted
pub mod Apart
pub mod Strict
pub mod Shown
pub mod Laws
