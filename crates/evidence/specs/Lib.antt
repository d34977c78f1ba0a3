pub mod Kept
pub mod Slot
pub mod Inside
pub mod Laws
pub mod Calls
