pub mod Singles
pub mod Sorts
pub mod Productions
pub mod TypeFronts
pub mod Longest
pub mod Rooms
pub mod FrontTexts
