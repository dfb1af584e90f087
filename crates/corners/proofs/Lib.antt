pub mod Places
pub mod Edges
pub mod Refusals
pub mod Answers
pub mod Computed
pub mod Rectangles
