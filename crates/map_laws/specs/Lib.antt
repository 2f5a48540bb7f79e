pub mod TwoTurns
pub mod EveryRunEnds
pub mod WaitingPages
pub mod WorldSteps
