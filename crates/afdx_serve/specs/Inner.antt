pub mod Leading
pub mod NetworkRunning
pub mod NotGot
pub mod Outputs
pub mod Reports
pub mod Telling
pub mod Watching
