pub mod Arrivals
pub mod Csv
pub mod Departures
pub mod Inner
pub mod Shown
