pub mod Ground
pub mod Offer
pub mod OwnClean
pub mod Polices
pub mod Sizes
pub mod Window
