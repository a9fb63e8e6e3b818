pub mod Orders
pub mod Places
pub mod Items
pub mod Makes
pub mod Batches
