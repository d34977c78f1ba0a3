pub mod ShapesOfWords
pub mod Readings
