pub mod Tasks
pub mod Parts
pub mod Moves
pub mod Leasts
pub mod Beginnings
pub mod Additions
pub mod Readies
pub mod Takings
