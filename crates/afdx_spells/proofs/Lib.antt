pub mod Ending
pub mod Longer
pub mod Parting
