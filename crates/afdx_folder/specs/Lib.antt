pub mod Files
pub mod Inner
pub mod Input
pub mod Output
