pub mod Arrivals
pub mod Inner
pub mod Table
