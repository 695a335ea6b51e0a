pub mod Due
pub mod Held
pub mod Laws
pub mod Own
pub mod Reading
pub mod Sound
pub mod Told
