pub mod Bytes
pub mod Capture
pub mod Record
pub mod Fault
pub mod Inner
pub mod Number
pub mod Reading
pub mod Text
