pub mod Patterns
pub mod Heads
pub mod Records
