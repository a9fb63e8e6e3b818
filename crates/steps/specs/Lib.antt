pub mod Memories
pub mod Begins
pub mod Steps
pub mod Answers
pub mod Results
pub mod Turns
pub mod Holdings
