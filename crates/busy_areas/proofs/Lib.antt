pub mod AreaInserted
pub mod NamedAreas
pub mod Last
pub mod PagesLookedUp
pub mod Elsewhere
pub mod JoinedAreas
