pub mod RegionSides
pub mod MadeSections
pub mod StandsWell
pub mod SectionRows
