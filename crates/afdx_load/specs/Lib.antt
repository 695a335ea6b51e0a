pub mod Accepted
pub mod Bounds
pub mod First
pub mod Fits
pub mod Inner
pub mod Load
