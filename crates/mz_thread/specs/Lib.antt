pub mod Answered
pub mod Stages
pub mod Keeping
pub mod Turned
pub mod Noted
pub mod Inside
pub mod Measure
