pub mod GroupsAtBase
pub mod SearchableGroups
