pub mod Solving
pub mod Surveying
pub mod Examples
