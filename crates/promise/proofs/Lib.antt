pub mod Noted
pub mod Roots
pub mod Lives
pub mod Keeps
pub mod Repeats
