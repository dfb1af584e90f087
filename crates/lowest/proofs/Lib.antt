pub mod Widths
pub mod Memory
pub mod Lowest
pub mod Downhill
