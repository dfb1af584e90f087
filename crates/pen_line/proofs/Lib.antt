pub mod Words
mod Numbers
mod Records
pub mod Unique
