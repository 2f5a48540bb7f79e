pub mod LiveAreaRows
pub mod KeptAreas
