pub mod Files
pub mod Readings
pub mod Opens
pub mod Works
pub mod Plans
pub mod Reads
