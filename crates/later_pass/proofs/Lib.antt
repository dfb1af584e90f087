pub mod Entering
pub mod LaterPass
