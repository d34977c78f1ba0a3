pub mod Owed
pub mod Clauses
pub mod OwnRun
