pub mod Cells
pub mod Chains
pub mod Lookups
pub mod Wells
pub mod Ways
pub mod Twins
pub mod Laws
