pub mod Parts
pub mod Sides
pub mod Spans
