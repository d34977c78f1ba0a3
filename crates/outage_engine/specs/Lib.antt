pub mod Recording
pub mod Engined
pub mod EngineInside
pub mod Bounding
pub mod Settled
pub mod Work
