pub mod Delay
pub mod Hops
pub mod Laws
pub mod Series
