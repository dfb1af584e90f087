pub mod OwnStrips
pub mod Rows
pub mod Laws
