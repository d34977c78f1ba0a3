pub mod Claimed
pub mod Conditions
pub mod Verdict
pub mod Laws
pub mod Chains
