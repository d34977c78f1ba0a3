pub mod Depths
pub mod BoundingLists
pub mod BoundingRows
pub mod BoundingRange
pub mod AfterEvents
pub mod Recorded
pub mod Telling
pub mod Working
