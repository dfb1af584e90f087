pub mod Sides
pub mod Limits
pub mod Runs
pub mod Owned
