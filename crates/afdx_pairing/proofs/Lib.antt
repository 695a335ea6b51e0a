pub mod Examples
pub mod Firsts
pub mod Keeping
pub mod Places
pub mod Taking
