pub mod Changes
pub mod Listed
pub mod Named
pub mod Orderless
pub mod Spotted
pub mod Parts
pub mod Firsts
