pub mod Placing
pub mod Entries
pub mod Settling
pub mod Popping
pub mod Reading
