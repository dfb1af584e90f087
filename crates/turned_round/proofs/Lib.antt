pub mod Halves
pub mod Parts
pub mod Refusing
pub mod Sides
pub mod Strokes
pub mod Corners
pub mod Batches
