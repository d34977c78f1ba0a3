pub mod Refusals
pub mod Words
pub mod Reports
pub mod Reading
