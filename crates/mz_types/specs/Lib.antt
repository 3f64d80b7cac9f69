pub mod Words
pub mod Trees
pub mod Grammar
pub mod Reading
pub mod Stops
pub mod Fronts
pub mod Laws
