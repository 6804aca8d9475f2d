pub mod Halves
pub mod Joins
pub mod Costs
pub mod ByNumbers
