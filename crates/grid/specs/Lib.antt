pub mod Table
pub mod Sides
pub mod Refusals
pub mod Calls
