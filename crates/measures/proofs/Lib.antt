pub mod Divisions
