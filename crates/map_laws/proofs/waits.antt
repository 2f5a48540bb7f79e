pub mod WaitStories
pub mod WaitNext
pub mod WaitWorlds
pub mod WaitReached
