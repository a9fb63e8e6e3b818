pub mod Lists
pub mod Laws
pub mod Fits
pub mod Counts
pub mod Regressions
