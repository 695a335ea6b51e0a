pub mod Coming
pub mod Faults
pub mod Merged
pub mod Timed
