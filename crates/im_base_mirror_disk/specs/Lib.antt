pub mod Copies
pub mod Marks
pub mod Pieces
