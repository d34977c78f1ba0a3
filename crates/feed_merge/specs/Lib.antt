pub mod Merging
pub mod Order
pub mod Laws
pub mod Heads
