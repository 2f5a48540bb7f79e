pub mod Numerals
pub mod Tally
pub mod TableLines
pub mod AuditLines
pub mod Report
pub mod CounterTotals
pub mod ReportRows
pub mod CounterRows
