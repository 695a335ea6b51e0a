pub mod Folding
pub mod Saying
