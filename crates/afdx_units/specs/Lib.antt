pub mod Line
pub mod Time
