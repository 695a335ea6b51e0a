pub mod Followed
mod Runs
mod Strings
mod Keys
mod Numbers
pub mod Values
pub mod Lines
mod Tables
mod Joining
