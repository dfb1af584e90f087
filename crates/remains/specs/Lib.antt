pub mod Ends
pub mod Runs
pub mod Remains
