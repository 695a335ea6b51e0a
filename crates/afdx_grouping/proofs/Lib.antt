pub mod Adding
pub mod LesserBounds
pub mod Partition
pub mod Scatter
pub mod Turning
