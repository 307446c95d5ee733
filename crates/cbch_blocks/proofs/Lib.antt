pub mod Fronts
pub mod Pages
pub mod Pieces
pub mod Slots
