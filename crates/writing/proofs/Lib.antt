pub mod Narrow
pub mod Numbers
pub mod Writing
