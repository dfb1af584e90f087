pub mod Members
pub mod Areas
pub mod Racks
pub mod Pairs
