pub mod ReportTexts
pub mod CounterTexts
pub mod JoinedTexts
pub mod CounterSums
pub mod Hexadecimal
pub mod ChunkAudits
