pub mod Worked
pub mod WorkedAreas
pub mod WorkedBlocks
pub mod WorkedObjects
pub mod WorkedChunks
