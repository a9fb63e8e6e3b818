pub mod Runs
pub mod Steps
pub mod Promises
pub mod Tellings
pub mod Samples
pub mod Acceptances
