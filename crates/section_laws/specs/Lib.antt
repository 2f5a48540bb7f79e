pub mod Lawful
pub mod MovesInTurn
pub mod Needs
pub mod ReadyRegions
pub mod WordBounds
