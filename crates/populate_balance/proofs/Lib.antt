pub mod NumberedChunks
pub mod Unpopulated
