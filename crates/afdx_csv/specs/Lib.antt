pub mod Csv
pub mod Slack
