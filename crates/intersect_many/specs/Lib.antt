pub mod Lists
pub mod Sweep
pub mod Demand
