pub mod Line
pub mod Laws
pub mod Workers
