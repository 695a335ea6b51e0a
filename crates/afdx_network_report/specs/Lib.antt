pub mod Lines
pub mod LinkEnds
pub mod Rows
