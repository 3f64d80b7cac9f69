pub mod Schedules
pub mod Running
pub mod Laws
