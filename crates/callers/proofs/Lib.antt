pub mod Lookups
pub mod FreedTold
pub mod AnswersGiven
pub mod Hulls
pub mod CarriedLists
pub mod CallersStarted
pub mod SoundCalls
