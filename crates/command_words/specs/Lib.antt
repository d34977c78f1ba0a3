pub mod Forms
pub mod Given
pub mod Matched
pub mod Seen
pub mod Told
