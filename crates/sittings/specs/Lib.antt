pub mod Sittings
pub mod Laws
