mod Nearest
pub mod Exact
mod Sum
pub mod Outcome
mod Ways
pub mod Answers
pub mod Places
pub mod Theorems
