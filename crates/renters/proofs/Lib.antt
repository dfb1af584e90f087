pub mod Told
pub mod Replay
pub mod Theorems
pub mod Pair
