pub mod LayoutRule
pub mod NumberRanges
pub mod Refusals
pub mod WorkedLayouts
pub mod LayoutLaws
pub mod Config
