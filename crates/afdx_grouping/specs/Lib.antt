pub mod Adding
pub mod Burst
pub mod Groups
pub mod Laws
pub mod Lined
pub mod Scatter
