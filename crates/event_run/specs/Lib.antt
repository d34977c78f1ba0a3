pub mod Entering
pub mod Pieces
pub mod Reading
pub mod Reached
