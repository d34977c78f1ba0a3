pub mod Kinds
pub mod Rates
pub mod Laws
