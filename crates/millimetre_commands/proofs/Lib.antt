pub mod Finite
pub mod Words
