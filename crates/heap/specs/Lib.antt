pub mod Heaps
pub mod Makes
