pub mod Inner
pub mod Traced
