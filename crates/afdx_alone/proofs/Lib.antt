pub mod OwnLemmas
pub mod Progress
pub mod Reading
pub mod Stopping
pub mod WindowLemmas
