pub mod Turned
pub mod Growing
pub mod FieldLists
