pub mod KeptLives
pub mod KeptBlocks
pub mod KeptBlockSides
pub mod BlockSpans
pub mod BlockRows
