pub mod Sames
pub mod Grows
pub mod Gains
pub mod Starts
pub mod Descents
pub mod Fills
