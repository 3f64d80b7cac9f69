-- What threads hold, and steps that leave the heap as it is.
pub mod Stacks
pub mod Quiet
pub mod Standing
pub mod Entering
pub mod Ready
