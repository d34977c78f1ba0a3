pub mod Entered
pub mod Putting
