pub mod Causes
pub mod Bytes
pub mod MemoryShelf
pub mod Started
pub mod MemorySink
pub mod Host
