pub mod Writing
pub mod Soundness
pub mod Tables
pub mod Rounds
pub mod Pulls
pub mod Copying
pub mod Examples
