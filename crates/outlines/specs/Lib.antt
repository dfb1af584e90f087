pub mod Outlines
pub mod Laws
pub mod Workers
