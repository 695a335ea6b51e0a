pub mod Laws
pub mod Lines
pub mod Taken
pub mod Telling
pub mod Told
pub mod Tracing
