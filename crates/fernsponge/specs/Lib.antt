pub mod Answers
pub mod Calls
pub mod Intersect
pub mod Positions
pub mod Plans
pub mod Cards
pub mod Collecting
pub mod Sheets
