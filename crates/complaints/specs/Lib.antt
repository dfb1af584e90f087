pub mod Complaints
