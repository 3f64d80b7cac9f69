pub mod Meaning
pub mod Names
pub mod Frames
pub mod Owners
pub mod Held
pub mod Following
pub mod Laws
pub mod Examples
