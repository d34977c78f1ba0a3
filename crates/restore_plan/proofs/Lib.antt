pub mod Same
pub mod Feeding
pub mod Legal
pub mod Opening
pub mod Closing
pub mod Flags
pub mod Queue
pub mod Apart
