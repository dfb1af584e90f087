pub mod Divisors
pub mod LowestTerms
pub mod Comparing
pub mod Rounding
pub mod Computed
pub mod Reading
