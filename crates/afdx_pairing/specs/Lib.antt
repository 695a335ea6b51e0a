pub mod Events
pub mod Inner
pub mod Kept
pub mod Limits
pub mod Pairing
pub mod Queue
