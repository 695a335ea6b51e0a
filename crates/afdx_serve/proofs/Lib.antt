mod Errors
mod FileLemmas
mod FitLemmas
pub mod JitterLemmas
pub mod NetworkCheckLemmas
pub mod CaptureLemmas
pub mod RunLemmas
pub mod LeadLemmas
pub mod MeasureLemmas
pub mod GetLemmas
pub mod GivenLemmas
pub mod NetworkLemmas
pub mod VerdictLemmas
pub mod ServingLemmas
pub mod SizeLemmas
pub mod TellingLemmas
pub mod JoinLemmas
pub mod CheckLemmas
pub mod CompareLemmas
mod PutLemmas
mod NetworkRunLemmas
pub mod NetworkMeasureLemmas
pub mod NetworkTextLemmas
pub mod WithinLemmas
mod WatchLemmas
mod NetworkTraceLemmas
