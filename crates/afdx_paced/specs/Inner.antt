pub mod Parts
pub mod Kept
