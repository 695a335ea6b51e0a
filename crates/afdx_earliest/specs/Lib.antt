pub mod Dues
pub mod Inner
pub mod Instants
