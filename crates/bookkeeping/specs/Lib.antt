pub mod PlainList
pub mod Runs
pub mod Areas
pub mod OneCall
pub mod Done
pub mod Laws
pub mod Morning
