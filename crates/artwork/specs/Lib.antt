pub mod Artwork
