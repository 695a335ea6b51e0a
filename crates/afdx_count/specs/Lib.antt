pub mod Counting
pub mod Inner
pub mod Report
pub mod Run
pub mod Tally
