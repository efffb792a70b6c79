pub mod Searched
pub mod Ranked
pub mod Halved
pub mod Once
pub mod Laws
pub mod Standings
