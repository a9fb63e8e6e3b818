pub mod Workings
pub mod Histories
pub mod Promises
