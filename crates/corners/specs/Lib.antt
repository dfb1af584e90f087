pub mod Edges
pub mod Corners
pub mod Laws
pub mod Rectangles
