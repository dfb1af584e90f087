pub mod Common
pub mod Holding
pub mod Pairs
