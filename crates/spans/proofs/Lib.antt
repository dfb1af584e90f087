pub mod Cutting
pub mod Parts
pub mod Sides
pub mod SidedCuts
pub mod Computed
