pub mod Places
pub mod Declarations
pub mod Contents
pub mod Signatures
pub mod View
