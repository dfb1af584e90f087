pub mod Beside
pub mod Corners
pub mod Courses
pub mod Found
pub mod Missed
pub mod Told
pub mod Unique
