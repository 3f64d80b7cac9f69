-- What is asked of a program, and that one that was read has it.
pub mod Proper
pub mod FromScoped
