pub mod Lists
pub mod Points
pub mod Rings
pub mod Cuts
pub mod Windows
