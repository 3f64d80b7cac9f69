pub mod Orders
pub mod Firsts
mod Adopters
