pub mod RenterArt
