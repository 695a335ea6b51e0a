pub mod Place
pub mod ReadBack
