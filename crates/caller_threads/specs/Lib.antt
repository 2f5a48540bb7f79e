pub mod Core
pub mod SectionsKeepLawful
pub mod Workers
