pub mod Columns
pub mod Gathering
