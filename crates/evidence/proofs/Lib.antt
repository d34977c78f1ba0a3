pub mod Keeping
pub mod CallLemmas
