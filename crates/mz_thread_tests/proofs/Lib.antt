pub mod Forwards
pub mod Opens
