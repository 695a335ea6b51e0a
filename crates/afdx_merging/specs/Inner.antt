pub mod Lanes
pub mod Merging
