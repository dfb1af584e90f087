pub mod Places
pub mod Marks
pub mod Lowest
pub mod Good
pub mod Apart
pub mod Testing
