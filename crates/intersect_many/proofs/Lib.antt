pub mod Pieces
pub mod Ranked
pub mod Rests
pub mod Swept
pub mod Room
pub mod Carried
pub mod Parts
pub mod Listed
pub mod Shown
pub mod Sound
pub mod Demanded
pub mod Called
pub mod Demands
pub mod Stands
mod Examples
