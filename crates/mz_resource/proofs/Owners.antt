-- Owners that hand on what they own.
pub mod Handing
pub mod Changing
pub mod Heaps
