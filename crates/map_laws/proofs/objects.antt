pub mod ObjectFacts
pub mod ObjectChanges
pub mod ObjectMoves
pub mod ObjectsMade
pub mod ObjectWords
pub mod ObjectsBefore
pub mod ObjectsReady
