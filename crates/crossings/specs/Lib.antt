pub mod Outlines
pub mod Tags
pub mod Meetings
