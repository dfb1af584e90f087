pub mod TwoRuns
pub mod Laws
