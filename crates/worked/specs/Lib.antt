pub mod Examples
pub mod Orders
pub mod Laws
