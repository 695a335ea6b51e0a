pub mod Early
pub mod Examples
pub mod Tested
pub mod Windows
