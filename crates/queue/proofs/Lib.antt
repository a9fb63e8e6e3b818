pub mod Order
pub mod Fronts
pub mod Scans
pub mod Runs
