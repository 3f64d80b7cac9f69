pub mod Digits
pub mod Runs
pub mod Classes
pub mod Marks
pub mod Unique
pub mod PlaceLemmas
pub mod CutLemmas
pub mod EachText
