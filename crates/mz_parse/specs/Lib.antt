pub mod Trees
pub mod Grammar
pub mod Parses
pub mod Laws
pub mod BodyReading
pub mod DeclarationReading
pub mod Rounds
pub mod Stops
