pub mod Digits
pub mod Values
pub mod Numerals
pub mod Patterns
pub mod Spaces
pub mod Lists
pub mod Pairs
pub mod Theorems
