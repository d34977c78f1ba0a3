pub mod LastCuts
pub mod Tallies
pub mod Listing
pub mod JudgedField
