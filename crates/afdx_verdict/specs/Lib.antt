pub mod Line
pub mod Verdict
