pub mod Apart
pub mod Distinct
pub mod Found
pub mod Holds
pub mod Pairs
pub mod Places
pub mod Room
pub mod Slots
