pub mod Searches
pub mod Pushes
pub mod Known
