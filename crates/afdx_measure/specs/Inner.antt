pub mod Arriving
pub mod Gauged
pub mod Policed
