pub mod Answer
pub mod Faults
pub mod Inner
pub mod Link
pub mod Own
