pub mod Lists
pub mod Occurrence
pub mod Joining
pub mod Labels
pub mod Coding
pub mod Using
