pub mod Digits
pub mod Words
