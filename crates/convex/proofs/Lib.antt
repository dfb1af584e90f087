pub mod Places
pub mod Convexity
pub mod Sums
pub mod Slopes
pub mod Rounds
pub mod Changes
pub mod Walking
pub mod Refusals
