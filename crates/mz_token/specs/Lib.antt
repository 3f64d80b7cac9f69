pub mod Shapes
pub mod Places
pub mod Tokens
pub mod Lexes
pub mod Fronts
pub mod Laws
