pub mod Workings
pub mod Founds
pub mod Suited
