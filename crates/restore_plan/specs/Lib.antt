pub mod Planned
pub mod Barred
pub mod States
pub mod Restoring
pub mod RestoringInside
pub mod Queueing
