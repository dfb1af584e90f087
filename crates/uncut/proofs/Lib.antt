pub mod OwnCorners
