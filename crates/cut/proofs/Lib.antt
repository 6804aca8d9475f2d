pub mod Directions
pub mod Searches
pub mod Visiting
pub mod Climbs
pub mod Lent
pub mod Settling
pub mod Reaches
pub mod Relabeling
