pub mod BookRows
pub mod BookEntries
