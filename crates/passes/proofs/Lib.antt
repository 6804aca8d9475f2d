pub mod Rewrites
pub mod Sounds
pub mod Tables
pub mod Rows
pub mod Pulls
pub mod Charges
pub mod Copies
pub mod ByNumbers
