pub mod Locking
pub mod Guards
pub mod Spending
pub mod Laws
