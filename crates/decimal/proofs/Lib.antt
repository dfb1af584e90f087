pub mod Patterns
pub mod Texts
pub mod Shapes
pub mod Signs
pub mod Unique
