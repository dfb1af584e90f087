pub mod Corners
pub mod Ways
