pub mod DeclarationStarts
pub mod Destinations
pub mod ReadParts
