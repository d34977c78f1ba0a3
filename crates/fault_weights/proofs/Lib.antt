pub mod Doublings
mod Example
