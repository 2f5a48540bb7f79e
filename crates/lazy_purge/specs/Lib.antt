pub mod WaitingSet
