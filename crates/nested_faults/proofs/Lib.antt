pub mod Noting
pub mod Ranges
pub mod Chains
pub mod LastCut
pub mod Tallying
pub mod Listed
pub mod Whole
