pub mod Examples
pub mod Known
pub mod Noise
pub mod Surplus
pub mod Told
