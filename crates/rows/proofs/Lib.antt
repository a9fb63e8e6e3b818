pub mod Alls
pub mod Both
pub mod Pairs
pub mod Regressing
pub mod Writing
pub mod Outcomes
