pub mod Slots
pub mod Workers
