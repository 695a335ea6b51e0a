pub mod ReportingLemmas
pub mod RowLemmas
