pub mod Pieces
pub mod Held
pub mod Ends
pub mod Passing
pub mod Loaded
