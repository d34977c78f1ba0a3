pub use Rattle.line_entries.specs.Entered
pub mod Rows
