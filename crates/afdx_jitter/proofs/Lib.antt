pub mod Jitter
pub mod Later
pub mod Way
