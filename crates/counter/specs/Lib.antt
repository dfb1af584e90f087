pub mod Serving
pub mod Laws
