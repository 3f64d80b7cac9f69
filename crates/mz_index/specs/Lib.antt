pub mod Finding
pub mod Classes
pub mod Tests
pub mod Labels
pub mod Questions
