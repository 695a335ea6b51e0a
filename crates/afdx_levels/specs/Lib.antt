pub mod Inner
pub mod Levels
