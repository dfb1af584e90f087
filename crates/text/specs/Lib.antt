pub mod Runs
pub mod Pages
