pub mod Given
pub mod Loads
pub mod Staying
pub mod Tabled
pub mod Walks
