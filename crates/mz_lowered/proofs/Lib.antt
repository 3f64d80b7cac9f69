pub mod Lowerable
pub mod InRange
pub mod SafeCode
pub mod Shown
