pub mod Adopting
pub mod Adopters
pub mod Laws
