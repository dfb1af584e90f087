pub mod Corners
pub mod Pairs
