pub mod Limits
pub mod Recordings
