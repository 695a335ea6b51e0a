pub mod Placing
pub mod Walking
