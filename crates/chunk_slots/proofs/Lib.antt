pub mod RisingLists
pub mod PagesInRow
pub mod FreeBits
pub mod Choosing
pub mod InOrder
pub mod CountedBits
pub mod SlotFitProofs
pub mod TakenFits
pub mod SlotRows
pub mod SlotLists
pub mod ChunkViews
pub mod ObjectViews
pub mod RowLists
pub mod SideStaysKept
pub mod FreeSlots
pub mod SideCalls
pub mod Placing
pub mod ObjectConditions
pub mod InSlots
pub mod NewChunks
pub mod LiveObjects
pub mod ChunkPages
mod PlainScans
mod TableViews
