pub mod AreaFacts
pub mod AreaMoves
pub mod AreaWorlds
pub mod AreaStarts
