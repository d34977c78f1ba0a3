pub mod Names
pub mod NetworkText
pub mod Draws
pub mod Happenings
pub mod EventText
pub mod Spelled
pub mod Laws
