pub mod Doing
pub mod Unique
