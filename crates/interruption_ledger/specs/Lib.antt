pub mod Ledgered
pub mod Inside
pub mod Laws
