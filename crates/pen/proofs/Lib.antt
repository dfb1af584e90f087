mod Drawings
pub mod Unique
pub mod SameLine
