pub mod Plans
pub mod Samples
pub mod Beliefs
pub mod Lists
pub mod Spaces
pub mod Regressions
