pub mod OwnEnds
pub mod FirstPass
