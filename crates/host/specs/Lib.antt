pub mod Files
pub mod Shapes
