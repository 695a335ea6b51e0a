pub mod Fields
pub mod File
pub mod Inner
pub mod Lines
pub mod Names
pub mod Refusal
