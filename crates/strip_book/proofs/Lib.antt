pub mod Halves
pub mod Refusing
pub mod Booking
pub mod Releasing
pub mod Unique
