pub mod Bytes
pub mod Six
pub mod Finding
pub mod Unique
