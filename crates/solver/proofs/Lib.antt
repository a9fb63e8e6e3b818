pub mod Tells
pub mod Endings
