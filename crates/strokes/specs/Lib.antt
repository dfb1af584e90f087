pub mod Sides
pub mod Strokes
pub mod Laws
pub mod Workers
