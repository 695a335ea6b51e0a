pub mod Commands
pub mod Explaining
pub mod FailOn
pub mod Requests
