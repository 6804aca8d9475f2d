pub mod Rings
pub mod Waits
pub mod ByNumbers
