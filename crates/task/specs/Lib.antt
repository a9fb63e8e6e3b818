pub mod Files
pub mod Laws
pub mod Answers
pub mod Layouts
pub mod Samples
