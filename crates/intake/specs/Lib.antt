pub mod Millimetres
pub mod Laws
