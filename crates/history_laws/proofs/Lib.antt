pub mod ByMeters
pub mod RunLists
pub mod LedgerRuns
