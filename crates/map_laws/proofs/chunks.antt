pub mod ChunkFalls
pub mod ChunkFacts
pub mod ChunkRows
pub mod ChunkMoves
pub mod ChunkNoted
pub mod ChunkDispatch
pub mod ChunkWorlds
pub mod ChunkAdded
