pub mod Laws
pub mod Workers
