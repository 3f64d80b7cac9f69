pub mod Firsts
pub mod Adopters
pub mod Made
pub mod Limits
