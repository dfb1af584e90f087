pub mod SideStrokes
pub mod Outlines
pub mod Meetings
