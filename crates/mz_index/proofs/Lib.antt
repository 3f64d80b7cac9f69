pub mod Labelled
pub mod Labelling
pub mod Asking
pub mod Edits
pub mod Found
