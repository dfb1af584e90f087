pub mod Listed
pub mod Rows
pub mod Refusing
pub mod Listing
pub mod Unique
