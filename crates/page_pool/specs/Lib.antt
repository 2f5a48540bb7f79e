pub mod PageMap
pub mod FrameList
pub mod StaleList
pub mod Late
pub mod MemoryWords
pub mod Units
pub mod PlainMapPages
pub mod GroupedLists
