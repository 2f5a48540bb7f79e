pub mod WorkedAreaProofs
pub mod WorkedBlockProofs
pub mod WorkedObjectProofs
pub mod WorkedChunkProofs
