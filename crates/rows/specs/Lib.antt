pub mod Refusals
pub mod Rows
pub mod Tasks
pub mod Calls
