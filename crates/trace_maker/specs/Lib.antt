pub mod Generated
pub mod MakingRows
pub mod WrittenSections
