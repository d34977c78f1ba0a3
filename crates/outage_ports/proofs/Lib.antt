pub mod Pieces
pub mod Positions
pub mod Named
pub mod Results
