pub mod Outcomes
pub mod Each
pub mod ByNumbers
