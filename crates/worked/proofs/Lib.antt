pub mod Worked
pub mod Agreement
pub mod Orders
