pub mod Ceilings
pub mod UnitSearch
pub mod GroupPlaces
pub mod GroupsApart
pub mod Lying
pub mod StandingLayouts
pub mod Overlaps
pub mod OwnGroups
