pub mod Spot
pub mod Pieces
pub mod Commit
