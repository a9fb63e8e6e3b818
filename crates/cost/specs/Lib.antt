pub mod Costs
pub mod Limits
pub mod Kinds
pub mod Plans
pub mod Spends
