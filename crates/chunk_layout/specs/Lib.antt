pub mod Pieces
pub mod Striping
