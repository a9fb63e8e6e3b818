pub mod Appends
pub mod Printables
pub mod Places
