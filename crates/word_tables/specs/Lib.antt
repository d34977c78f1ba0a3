pub mod Tables
pub mod TableInside
pub mod Words
pub mod Laws
