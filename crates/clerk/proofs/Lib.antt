pub mod Texts
pub mod Slots
pub mod Taking
pub mod Unique
