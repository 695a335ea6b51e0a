pub mod ArgumentLemmas
pub mod CommandLemmas
pub mod CompareLemmas
pub mod ExplainingLemmas
pub mod FailOnLemmas
pub mod LinkLemmas
