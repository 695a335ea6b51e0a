pub mod Account
pub mod Early
pub mod Inner
pub mod Level
pub mod Policing
pub use Rattle.afdx_units.specs.Line
pub use Rattle.afdx_units.specs.Time
