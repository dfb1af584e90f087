pub mod Codes
pub mod Steps
pub mod Laws
pub mod Workers
