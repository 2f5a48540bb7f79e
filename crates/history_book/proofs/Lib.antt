pub mod PlacesSoFar
pub mod EntriesOfRows
