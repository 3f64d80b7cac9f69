pub mod Commands
pub mod Branches
pub mod Laws
pub mod Blocks
pub mod Spending
pub mod Walking
pub mod Starting
