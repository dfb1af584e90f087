pub mod Memory
pub mod Tagged
