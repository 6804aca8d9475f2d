pub mod Shapes
pub mod Records
pub mod Ties
pub mod Tiles
pub mod Rating
pub mod Halving
pub mod Examples
