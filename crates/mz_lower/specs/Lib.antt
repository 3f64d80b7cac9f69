pub mod Layout
pub mod Addresses
pub mod StandsFor
pub mod NamedRuns
pub mod Laws
pub mod Safe
