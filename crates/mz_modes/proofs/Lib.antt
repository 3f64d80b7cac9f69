pub mod Least
pub mod Made
pub mod Clauses
pub mod UsedUp
pub mod Returned
pub mod Opened
pub mod Firsts
