pub mod Decimals
pub mod Workers
