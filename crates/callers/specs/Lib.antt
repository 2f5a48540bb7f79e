pub mod CarriedPlaces
pub mod CallerParts
