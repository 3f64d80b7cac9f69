pub mod Steps
pub mod Equations
pub mod Spots
pub mod Rules
pub mod Answers
pub mod Laws
