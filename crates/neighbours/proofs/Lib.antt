pub mod Windows
pub mod Sides
pub mod Border
pub mod Parts
pub mod Strokes
pub mod Given
pub mod Rows
