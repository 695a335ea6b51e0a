pub mod Cases
pub mod Clean
pub mod Exactly
