pub mod Traversed
pub mod Spreading
pub mod TraversedInside
pub mod Forested
pub mod ForestedInside
pub mod Rooting
pub mod Lower
