pub mod Checks
pub mod Calls
pub mod Runs
pub mod Laws
pub mod Examples
