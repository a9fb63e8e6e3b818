pub mod Stores
pub mod Blocks
pub mod Laws
