pub mod Followed
pub mod Inner
pub mod Output
pub mod Tally
pub mod Watch
pub mod Watched
