pub mod MakingTexts
pub mod Zips
pub mod SectionLines
pub mod PickLines
pub mod Newest
pub mod Makings
