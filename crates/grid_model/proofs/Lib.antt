pub mod Distinct
pub mod Lookup
pub mod SoundParts
pub mod Grouping
pub mod AtNodes
pub mod Started
