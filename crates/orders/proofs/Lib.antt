mod Readings
pub mod Unique
