pub mod Steps
pub mod Written
pub mod Surveyed
pub mod ByNumbers
