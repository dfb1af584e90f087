pub mod Numbers
pub mod Shortest
