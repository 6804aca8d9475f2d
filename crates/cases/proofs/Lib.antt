pub mod EveryGrid
pub mod Decided
pub mod Worked
pub mod OneCell
