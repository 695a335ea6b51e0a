pub mod Adding
pub mod First
pub mod Laws
pub mod Slots
pub mod Small
