pub mod Orders
pub mod Passes
