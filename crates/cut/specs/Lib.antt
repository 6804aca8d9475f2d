pub mod Ranks
pub mod Lent
pub mod Searches
pub mod Climbs
pub mod Relabels
