pub mod Lines
pub mod Slots
pub mod Written
pub mod Once
pub mod Back
pub mod Theorems
