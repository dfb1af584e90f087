pub mod SheetArt
