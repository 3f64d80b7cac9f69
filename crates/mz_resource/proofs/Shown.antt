-- Two programs.
pub mod Inverting
pub mod Doubling
pub mod Lacking
pub mod Sharing
