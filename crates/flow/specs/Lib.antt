pub mod Sides
pub mod Lent
pub mod Networks
pub mod Points
pub mod Charts
pub mod Examples
