pub mod Lists
pub mod Intervals
pub mod Cover
