pub mod BlockFacts
pub mod BlockMoves
pub mod BlockChanges
pub mod PartMoves
pub mod FragmentMoves
pub mod BlockPlaces
pub mod BlockWorlds
