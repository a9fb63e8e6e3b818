pub mod Places
pub mod Meanings
pub mod Sizes
pub mod Lengths
pub mod Searches
