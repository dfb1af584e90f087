pub mod Rows
pub mod Workers
pub mod Laws
