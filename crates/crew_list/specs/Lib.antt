pub mod Listed
pub mod Chains
pub mod Groups
pub mod Ranks
