pub mod Inner
pub mod Needs
pub mod Net
pub mod Order
pub mod Outage
pub mod Rules
pub mod Ways
