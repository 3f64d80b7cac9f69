-- What a view step does to a share.
pub mod Viewing
pub mod Opening
