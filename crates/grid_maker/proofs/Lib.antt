pub mod Each
pub mod RowPieces
pub mod Seconds
pub mod EventPieces
pub mod Pieces
pub mod Sizes
