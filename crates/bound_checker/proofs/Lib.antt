pub mod FirstBelow
pub mod Trials
pub mod Passed
pub mod NothingFails
pub mod Agreeing
pub mod TightTables
pub mod Added
pub mod Joined
