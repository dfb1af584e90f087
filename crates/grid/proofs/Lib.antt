pub mod Ranges
pub mod Refusals
pub mod Tested
pub mod StrokeLists
pub mod Fill
pub mod Calls
