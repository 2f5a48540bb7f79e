pub mod LinesOfCaller
pub mod Shares
pub mod Sharing
