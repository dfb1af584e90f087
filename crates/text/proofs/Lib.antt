pub mod Runs
pub mod Puts
pub mod Numbers
pub mod Ends
