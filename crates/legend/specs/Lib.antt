pub mod Legends
