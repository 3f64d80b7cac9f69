-- Each kind of command keeps the invariant.
pub mod Ruled
pub mod Making
pub mod Remaking
pub mod Adopting
pub mod Locking
pub mod Turning
pub mod Branching
pub mod Calling
pub mod Spawning
