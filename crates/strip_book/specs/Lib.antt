pub mod Renters
pub mod Books
pub mod Laws
pub mod Workers
