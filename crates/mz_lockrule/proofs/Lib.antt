pub mod Orders
pub mod Firsts
mod Answering
mod Guarding
