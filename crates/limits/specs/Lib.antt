pub mod Limits
pub mod Refusals
pub mod Checking
pub mod Examples
