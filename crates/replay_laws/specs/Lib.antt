pub mod RoundTrip
pub mod Exchanged
pub mod ClosingLaws
