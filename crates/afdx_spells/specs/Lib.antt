pub mod Inner
pub mod Lines
pub mod Spells
