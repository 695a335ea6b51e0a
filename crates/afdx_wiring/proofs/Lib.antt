pub mod ApartLemmas
pub mod ArrayLemmas
pub mod Examples
pub mod LimitLemmas
pub mod TextLemmas
