pub mod Counts
pub mod Delays
pub mod Loads
pub mod Spells
