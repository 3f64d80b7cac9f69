pub mod Names
pub mod Fields
pub mod NumberedFields
pub mod Turns
pub mod Trees
pub mod Chains
