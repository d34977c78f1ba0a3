pub mod Lines
pub mod Fields
pub mod Rows
pub mod Decimals
pub mod Stamps
pub mod EventLines
pub mod Fractions
