pub mod CallerKnows
