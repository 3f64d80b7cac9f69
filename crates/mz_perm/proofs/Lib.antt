pub mod Lists
pub mod Firsts
pub mod Orders
pub mod Taking
pub mod Locks
pub mod Labelling
pub mod Remaining
