pub mod Texts
pub mod Readings
pub mod Workers
pub mod Laws
