pub mod Given
pub mod Touching
pub mod Cutting
