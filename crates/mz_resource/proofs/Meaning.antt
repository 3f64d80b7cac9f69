-- What permissions mean and own, apart from threads.
pub mod Names
pub mod Owning
pub mod Staying
pub mod Spending
pub mod Inverse
