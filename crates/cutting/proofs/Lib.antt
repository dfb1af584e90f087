pub mod Readings
pub mod Theorems
