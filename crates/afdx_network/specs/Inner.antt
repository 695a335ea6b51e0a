pub mod Intake
pub mod OneLine
pub mod Outputs
pub mod Sites
pub mod Windows
pub mod Noted
