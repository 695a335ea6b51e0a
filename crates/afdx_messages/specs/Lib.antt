pub mod Codes
pub mod Inner
pub mod Lines
pub mod Reporting
