pub mod CheckEnds
pub mod VerdictPlaces
