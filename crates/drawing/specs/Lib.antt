pub mod Intake
pub mod Pen
pub mod Drawings
pub mod Laws
