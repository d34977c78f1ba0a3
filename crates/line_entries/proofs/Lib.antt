pub mod Puts
pub mod ChangeRows
