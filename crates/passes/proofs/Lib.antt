pub mod Orders
pub mod Running
