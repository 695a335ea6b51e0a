pub mod Inner
pub mod Merge
pub mod Read
