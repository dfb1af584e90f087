pub mod StripArt
