pub mod Cases
pub mod Quiet
pub mod Frames
pub mod Moves
pub mod Steps
pub mod Goes
pub mod Noted
pub mod Ending
