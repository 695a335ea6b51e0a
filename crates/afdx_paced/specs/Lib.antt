pub mod Paced
pub mod Laws
pub mod Inner
